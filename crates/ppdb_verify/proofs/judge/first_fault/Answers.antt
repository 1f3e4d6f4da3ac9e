use Rattle.std.proofs.{Common.{refl, subst}, lemmas.Bool.{false≢true}}
use Rattle.ppdb_base.specs.First.{IsFirst}
use Rattle.ppdb_tables.specs.RawOf.{raw_of}
use Rattle.ppdb_verify_rules.specs.{declared.errors.VerifyError.{VerifyError}, Errors.{FaultIs}, Rows.{RowFaults}}
use Rattle.ppdb_verify.proofs.Families.{row_is_earlier, span_is_earlier, span_is_first}
use Rattle.ppdb_verify.proofs.judge.first_fault.Goals as goal

pub returns-then-comes_before : goal.returns-then-comes_before
returns-then-comes_before g c =
    row_is_earlier (raw_of c.args.tables.now) c.args.over c.in-Err-Fault.fault c.requires
    (subst (λ (e : VerifyError). FaultIs (IsFirst (RowFaults (raw_of c.args.tables.now))) e) c.in-Err-Fault.field-0-is c.in-Err-Fault.ensures.err)
    (c.if-comes_before.ensures.0 refl)

pub returns-in-Ok : goal.returns-in-Ok
returns-in-Ok g c = span_is_first (raw_of c.args.tables.now) c.args.over c.requires c.in-Ok.ensures.ok

pub returns-else-comes_before : goal.returns-else-comes_before
returns-else-comes_before g c =
    span_is_earlier (raw_of c.args.tables.now) c.args.over c.in-Err-Fault.fault c.requires
    (subst (λ (e : VerifyError). FaultIs (IsFirst (RowFaults (raw_of c.args.tables.now))) e) c.in-Err-Fault.field-0-is c.in-Err-Fault.ensures.err)
    (λ early. false≢true (c.if-comes_before.ensures.1 early))
