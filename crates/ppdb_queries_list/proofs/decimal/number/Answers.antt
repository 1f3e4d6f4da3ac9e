use Rattle.std.{proofs.Common.{◌≡◌, arith, sym, ◌∙◌}, specs.Fmt.{decimal}, proofs.lemmas.Fmt.{decimal_injective}}
use Rattle.ppdb_queries_list.proofs.decimal.number.Goals as goal

pub returns-else-value-most-clause-none : goal.returns-else-value-most-clause-none
returns-else-value-most-clause-none c = λ n to is.
    let spelled : c.args.word.now ≡ decimal c.in_ok-value.value = c.in_ok-value.ensures.some in
    let same : n ≡ c.in_ok-value.value = decimal_injective n c.in_ok-value.value (grind (arith, to)) (grind arith) (sym is ∙ spelled) in
    omega (arith, same, to)
