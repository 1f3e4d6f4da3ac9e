use Rattle.ppdb_tables.specs.RawOf.{raw_of}
use Rattle.ppdb_verify_rules.proofs.{CellFaults.{refuted}, ScopeFaults.{crossing_first, crossing_next}}
use Rattle.ppdb_verify_rules.proofs.scopes.judge_crossing.Goals as goal

pub returns-then-crosses_earlier-clause-err : goal.returns-then-crosses_earlier-clause-err
returns-then-crosses_earlier-clause-err c =
    crossing_first (raw_of c.args.tables.now) c.args.row c.args.scope.now c.requires.there c.fault.result c.requires.judged
    (c.crosses_earlier.ensures.0 c.if-crosses_earlier.true) c.fault.ensures

pub returns-clause-ok : goal.returns-clause-ok
returns-clause-ok c = crossing_next (raw_of c.args.tables.now) c.args.row c.args.scope.now c.requires.there c.requires.judged
    (refuted c.crosses_earlier.result c.crosses_earlier.ensures c.if-crosses_earlier.false)
