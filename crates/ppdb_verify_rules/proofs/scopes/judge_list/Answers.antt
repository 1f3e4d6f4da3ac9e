use Rattle.ppdb_tables.specs.RawOf.{raw_of}
use Rattle.ppdb_verify_rules.proofs.{CellFaults.{refuted}, ScopeFaults.{list_first, list_next}}
use Rattle.ppdb_verify_rules.proofs.scopes.judge_list.Goals as goal

pub returns-then-is_list_out-clause-err : goal.returns-then-is_list_out-clause-err
returns-then-is_list_out-clause-err g c =
    list_first (raw_of c.args.tables.now) c.args.row c.args.scope.now c.requires.there c.args.list c.fault.result c.requires.judged
    (c.is_list_out.ensures.0 c.if-is_list_out.true) (rw c.column.ensures at c.fault.ensures)

pub returns-clause-ok : goal.returns-clause-ok
returns-clause-ok g c = list_next (raw_of c.args.tables.now) c.args.row c.args.scope.now c.requires.there c.args.list c.requires.judged
    (refuted c.is_list_out.result c.is_list_out.ensures c.if-is_list_out.false)
