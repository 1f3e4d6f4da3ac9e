use Rattle.std.proofs.{Common.{◌≡◌, ◌/◌, ◌%◌, get_or, sym, ap, ◌∙◌, arith}, lemmas.Bool.{false≢true}, lemmas.Grind.{common_steps}}
use Rattle.ppdb_base.specs.Escaped.{is_plain}
use Rattle.ppdb_maps.proofs.Spelled.{code_long, code_high, code_low, code_one, code_there, code_below}
use Rattle.ppdb_maps.proofs.escaped.code_before.Goals as goal

pub returns-in_default-clause-none : goal.returns-in_default-clause-none
returns-in_default-clause-none c = λ byte rest below plain is.
    let long = code_long byte rest c.args.text.now is in let short = c.in_default.len_below in omega (arith, long, short)

pub returns-in_err-lower_digit-clause-none : goal.returns-in_err-lower_digit-clause-none
returns-in_err-lower_digit-clause-none c = rw c.from_residual.ensures
    (λ byte rest below plain is. c.in_err-lower_digit.ensures.none (byte / 16) (code_high byte rest c.args.text.now below is))

pub returns-in_err-byte-clause-none : goal.returns-in_err-byte-clause-none
returns-in_err-byte-clause-none c = rw c.from_residual-in_err-byte.ensures
    (λ byte rest below plain is. c.in_err-byte.ensures.none (byte % 16) (code_low byte rest c.args.text.now is))

pub returns-then-stands_for_itself-clause-none : goal.returns-then-stands_for_itself-clause-none
returns-then-stands_for_itself-clause-none c = λ byte rest below plain is.
    false≢true (sym plain ∙ (ap is_plain (code_one byte rest c.args.text.now c.in_ok-lower_digit.field-0 c.in_ok-byte.field-0 below is
    c.in_ok-lower_digit.ensures.some c.in_ok-byte.ensures.some) ∙ (sym c.stands_for_itself.ensures ∙ c.if-stands_for_itself.true)))

pub returns-clause-some : goal.returns-clause-some
returns-clause-some c =
    let text = c.args.text.now in
    let slash : get_or text 0 0 ≡ 92 = grind (arith, common_steps) in
    let letter : get_or text 1 0 ≡ 120 = grind (arith, common_steps) in (
      sym c.stands_for_itself.ensures ∙ c.if-stands_for_itself.false,
      code_there text c.in_ok-lower_digit.field-0 c.in_ok-byte.field-0
          c.in-len4-up.len_at_least slash letter c.in_ok-lower_digit.ensures.some c.in_ok-byte.ensures.some,
    )

pub returns-clause-fits : goal.returns-clause-fits
returns-clause-fits c = code_below _ _ _ _ c.in_ok-lower_digit.ensures.some c.in_ok-byte.ensures.some
