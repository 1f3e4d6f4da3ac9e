use Rattle.std.proofs.{Common.{arith}, lemmas.Result.{err_from_is_err_and}}
use Rattle.ppdb_tables.proofs.FirstOfHead.{prefix_is_first, foreign_is_first}
use Rattle.ppdb_tables.proofs.head.read_bits.Goals as goal

pub returns-in_err-fields_end-clause-first : goal.returns-in_err-fields_end-clause-first
returns-in_err-fields_end-clause-first c =
    let p = err_from_is_err_and c.from_residual.result c.from_residual.ensures.1 in
    rw (p.1, p.2) (prefix_is_first c.args.bytes.now c.in_err-fields_end.field-0.0 c.in_err-fields_end.ensures.short)

pub returns-then-bits-ne0-clause-first : goal.returns-then-bits-ne0-clause-first
returns-then-bits-ne0-clause-first c =
    let end = c.in_ok-fields_end.ensures.end in
    foreign_is_first c.args.bytes.now c.fault.result c.fault.ensures (omega (arith, end.0, end.1)) (omega (arith, c.if-bits-ne0.true, c.u64_at-bits.ensures))
