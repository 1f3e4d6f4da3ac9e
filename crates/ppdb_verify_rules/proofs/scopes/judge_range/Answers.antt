use Rattle.ppdb_tables.specs.RawOf.{raw_of}
use Rattle.ppdb_verify_rules.proofs.{CellFaults.{refuted}, ScopeFaults.{range_first, range_next}}
use Rattle.ppdb_verify_rules.proofs.scopes.judge_range.Goals as goal

pub returns-then-has_no_range-clause-err : goal.returns-then-has_no_range-clause-err
returns-then-has_no_range-clause-err c = range_first (raw_of c.args.tables.now) c.args.row c.args.scope.now c.requires.there c.fault.result c.requires.judged
    (c.has_no_range.ensures.0 c.if-has_no_range.true) c.fault.ensures

pub returns-clause-ok : goal.returns-clause-ok
returns-clause-ok c = range_next (raw_of c.args.tables.now) c.args.row c.args.scope.now c.requires.there c.requires.judged
    (refuted c.has_no_range.result c.has_no_range.ensures c.if-has_no_range.false)
