use Rattle.ppdb_tables.specs.RawOf.{raw_of}
use Rattle.ppdb_verify_rules.proofs.{CellFaults.{refuted}, BlobFaults.{no_guid, guid_there}, CustomFaults.{no_kind_first, other_parent_first, next_1}}
use Rattle.ppdb_verify_rules.proofs.customs.judge_kind.Goals as goal

pub returns-in_default-clause-err : goal.returns-in_default-clause-err
returns-in_default-clause-err c = no_kind_first (raw_of c.args.tables.now) c.args.row c.args.custom.now c.requires.there c.fault.result c.requires.judged
    (no_guid (raw_of c.args.tables.now).guids c.args.custom.now.kind c.in_default.ensures.none) c.fault.ensures

pub returns-then-has_other_parent-clause-err : goal.returns-then-has_other_parent-clause-err
returns-then-has_other_parent-clause-err c =
    other_parent_first (raw_of c.args.tables.now) c.args.row c.args.custom.now c.requires.there c.fault-then-has_other_parent.result c.requires.judged
    (guid_there (raw_of c.args.tables.now).guids c.args.custom.now.kind c.in-Some.kind c.in-Some.ensures.some)
    (c.has_other_parent.ensures.0 c.if-has_other_parent.true) c.fault-then-has_other_parent.ensures

pub returns-clause-ok : goal.returns-clause-ok
returns-clause-ok c = next_1 (raw_of c.args.tables.now) c.args.row c.args.custom.now c.requires.there c.requires.judged
    (guid_there (raw_of c.args.tables.now).guids c.args.custom.now.kind c.in-Some.kind c.in-Some.ensures.some)
    (refuted c.has_other_parent.result c.has_other_parent.ensures c.if-has_other_parent.false)
