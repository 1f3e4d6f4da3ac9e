use Rattle.std.proofs.Common.{sym}
use Rattle.ppdb_tables.specs.RawOf.{raw_of}
use Rattle.ppdb_verify_rules.proofs.{BlobFaults.{no_invalid_value, value_there}, CustomFaults.{no_value_first, invalid_value_first, next_2}}
use Rattle.ppdb_verify_rules.proofs.customs.judge_value.Goals as goal

pub returns-in_default-clause-err : goal.returns-in_default-clause-err
returns-in_default-clause-err c = no_value_first (raw_of c.args.tables.now) c.args.row c.args.custom.now c.requires.there c.fault.result c.requires.judged
    (sym (rw c.blobs.ensures at c.in_default.ensures.blob)) c.fault.ensures

pub returns-in-Some-value_fault-clause-err : goal.returns-in-Some-value_fault-clause-err
returns-in-Some-value_fault-clause-err c =
    invalid_value_first (raw_of c.args.tables.now) c.args.row c.args.custom.now c.requires.there c.fault_within.result c.in-Some-value_fault.inside
    c.requires.judged
    (record {
      kind = c.args.kind;
      of_kind = c.requires.kind;
      content = c.in-Some.content.now;
      there = sym (rw c.blobs.ensures at c.in-Some.ensures.blob);
      reads = c.in-Some-value_fault.ensures;
    })
    c.fault_within.ensures

pub returns-in-None-clause-ok : goal.returns-in-None-clause-ok
returns-in-None-clause-ok c = next_2 (raw_of c.args.tables.now) c.args.row c.args.custom.now c.requires.there c.requires.judged
    (value_there (raw_of c.args.tables.now).blobs c.in-Some.content.now c.args.custom.now.value (sym (rw c.blobs.ensures at c.in-Some.ensures.blob)))
    (no_invalid_value {raw = raw_of c.args.tables.now} {custom = c.args.custom.now} c.args.kind c.in-Some.content.now c.requires.kind
    (sym (rw c.blobs.ensures at c.in-Some.ensures.blob)) c.in-None.ensures)
