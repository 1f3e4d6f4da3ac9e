use Rattle.std.proofs.{Common.{sym, subst, arith}, lemmas.Bool.{iff_false}, lemmas.Result.{err_from_is_err_and}}
use Rattle.ppdb_tables.{specs.Tables.{IsForeign}, proofs.FirstOfTables.{valid_short, sorted_short, foreign_is_first}}
use Rattle.ppdb_tables.proofs.header.read_valid.Goals as goal

pub returns-in_err-fields_end-clause-first : goal.returns-in_err-fields_end-clause-first
returns-in_err-fields_end-clause-first c =
    let p = err_from_is_err_and c.from_residual.result c.from_residual.ensures.1 in
    rw (p.1, p.2) (valid_short c.args.methods c.args.bytes.now c.requires.known c.in_err-fields_end.field-0.0 c.in_err-fields_end.ensures.short)

pub returns-then-is_foreign-clause-first : goal.returns-then-is_foreign-clause-first
returns-then-is_foreign-clause-first c =
    let end = c.in_ok-fields_end.ensures.end in
    foreign_is_first c.args.methods c.args.bytes.now c.fault.result c.fault.ensures c.requires.known (omega (arith, end.0, end.1))
    (subst IsForeign c.u64_at-bits.ensures (c.is_foreign.ensures.0 c.if-is_foreign.true))

pub returns-in_err-fields_end-2-clause-first : goal.returns-in_err-fields_end-2-clause-first
returns-in_err-fields_end-2-clause-first c =
    let p = err_from_is_err_and c.from_residual-in_err-fields_end-2.result c.from_residual-in_err-fields_end-2.ensures.1 in
    rw (p.1, p.2) (sorted_short c.args.methods c.args.bytes.now c.requires.known (λ some.
    iff_false c.is_foreign.ensures c.if-is_foreign.false (subst IsForeign (sym c.u64_at-bits.ensures) some)) c.in_err-fields_end-2.field-0.0
    c.in_err-fields_end-2.ensures.short)
