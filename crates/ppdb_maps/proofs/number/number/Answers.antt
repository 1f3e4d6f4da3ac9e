use Rattle.std.{proofs.Common.{◌≡◌, arith, sym, ◌∙◌}, specs.Fmt.{decimal}, proofs.lemmas.Fmt.{decimal_injective}}
use Rattle.ppdb_maps.proofs.number.number.Goals as goal
use Rattle.ppdb_maps.proofs.number.number.Goals.{else-least-value-via-then-least-value+else-value-most, else-least-value-via-else-least-value}

pub returns-else-least-value-clause-none : goal.returns-else-least-value-clause-none
returns-else-least-value-clause-none c = λ n is.
    let spelled : c.args.word.now ≡ decimal c.in_ok-value.value = c.in_ok-value.ensures.some in
    let from = is.from in
    let to = is.to in
    let same : n ≡ c.in_ok-value.value = decimal_injective n c.in_ok-value.value (grind arith) (grind arith) (sym is.spelled ∙ spelled) in
    elim c.else-least-value.branch [
      | else-least-value-via-then-least-value+else-value-most w ↦ omega (arith, same, from, to)
      | else-least-value-via-else-least-value w ↦ omega
          (arith, same, from, to)
    ]
