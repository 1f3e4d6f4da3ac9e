use Rattle.std.{proofs.Common.{◌≡◌, ◌<◌, ◌^◌, arith, sym, ap, ◌∙◌}, specs.Fmt.{decimal}, specs.Str.Parse.{digits_value}, proofs.lemmas.Grind.{common_steps}}
use Rattle.ppdb_maps.{specs.Spelling.{MaySpell}, proofs.Numbers.{may_spell_word, all_digits_decimal, decimal_of_digits, spelled_or_none, none_is_above}}
use Rattle.ppdb_maps.proofs.number.decimal_of.Goals as goal

pub returns-then-not-may_spell-clause-none : goal.returns-then-not-may_spell-clause-none
returns-then-not-may_spell-clause-none c = λ n below is. let may = may_spell_word n c.args.word.now below is in grind (arith, common_steps, may)

pub returns-in_err-value-clause-none : goal.returns-in_err-value-clause-none
returns-in_err-value-clause-none c = rw c.from_residual.ensures (λ n below is. c.in_err-value.ensures (all_digits_decimal n c.args.word.now below is))

pub returns-clause-some : goal.returns-clause-some
returns-clause-some c =
    let digits = c.in_ok-value.ensures in
    let may : MaySpell c.args.word.now = grind (arith, common_steps) in
    let below : digits_value 10 c.args.word.now < 2 ^ 64 = grind (arith, digits.1) in
    let is : c.args.word.now ≡ decimal (digits_value 10 c.args.word.now) = decimal_of_digits c.args.word.now may digits.0 below in
    rw c.ok.ensures.value (spelled_or_none _ _ _ c.try_from.ensures (is ∙ ap decimal (sym digits.1)))

pub returns-clause-none : goal.returns-clause-none
returns-clause-none c = let digits = c.in_ok-value.ensures in rw c.ok.ensures.value (none_is_above _ _ _ c.try_from.ensures (sym digits.1))
