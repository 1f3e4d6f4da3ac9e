use Rattle.ppdb_tables.specs.RawOf.{raw_of}
use Rattle.ppdb_verify_rules.proofs.{CellFaults.{refuted}, ScopeFaults.{method_first, order_first, method_next}}
use Rattle.ppdb_verify_rules.proofs.scopes.judge_method.Goals as goal

pub returns-then-names_no_row-clause-err : goal.returns-then-names_no_row-clause-err
returns-then-names_no_row-clause-err g c = method_first (raw_of c.args.tables.now) c.args.row c.args.scope.now c.requires.there c.fault.result c.requires.judged
    (c.names_no_row.ensures.0 c.if-names_no_row.true) c.fault.ensures

pub returns-then-is_below_earlier-clause-err : goal.returns-then-is_below_earlier-clause-err
returns-then-is_below_earlier-clause-err g c =
    order_first (raw_of c.args.tables.now) c.args.row c.args.scope.now c.requires.there c.fault-then-is_below_earlier.result c.requires.judged
    (refuted c.names_no_row.result c.names_no_row.ensures c.if-names_no_row.false)
    (c.is_below_earlier.ensures.0 c.if-is_below_earlier.true) c.fault-then-is_below_earlier.ensures

pub returns-clause-ok : goal.returns-clause-ok
returns-clause-ok g c = method_next (raw_of c.args.tables.now) c.args.row c.args.scope.now c.requires.there c.requires.judged
    (refuted c.names_no_row.result c.names_no_row.ensures c.if-names_no_row.false)
    (refuted c.is_below_earlier.result c.is_below_earlier.ensures c.if-is_below_earlier.false)
