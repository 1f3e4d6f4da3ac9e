use Rattle.ppdb_maps.proofs.Numbers.{digit_there, digit_after, digits_of_table}
use Rattle.ppdb_maps.proofs.number.table.Goals as goal

pub returns-in_err-hex_digit-clause-none : goal.returns-in_err-hex_digit-clause-none
returns-in_err-hex_digit-clause-none c = rw c.from_residual.ensures
    (λ t table.
    let is = digits_of_table c.args.word.now t table in
    c.in_err-hex_digit.ensures.none is.high (digit_there c.args.word.now is.c is.d is.high is.spelled is.digits.0))

pub returns-in_err-value-clause-none : goal.returns-in_err-value-clause-none
returns-in_err-value-clause-none c = rw c.from_residual-in_err-value.ensures
    (λ t table.
    let is = digits_of_table c.args.word.now t table in
    c.in_err-value.ensures.none is.low (digit_after c.args.word.now is.c is.d is.low is.spelled is.digits.1))
