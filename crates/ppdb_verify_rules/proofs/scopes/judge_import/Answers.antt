use Rattle.ppdb_tables.specs.RawOf.{raw_of}
use Rattle.ppdb_verify_rules.proofs.{CellFaults.{refuted}, ScopeFaults.{import_first, import_next}}
use Rattle.ppdb_verify_rules.proofs.scopes.judge_import.Goals as goal

pub returns-then-names_no_row-clause-err : goal.returns-then-names_no_row-clause-err
returns-then-names_no_row-clause-err c = import_first (raw_of c.args.tables.now) c.args.row c.args.scope.now c.requires.there c.fault.result c.requires.judged
    (c.names_no_row.ensures.0 c.if-names_no_row.true) c.fault.ensures

pub returns-clause-ok : goal.returns-clause-ok
returns-clause-ok c = import_next (raw_of c.args.tables.now) c.args.row c.args.scope.now c.requires.there c.requires.judged
    (refuted c.names_no_row.result c.names_no_row.ensures c.if-names_no_row.false)
