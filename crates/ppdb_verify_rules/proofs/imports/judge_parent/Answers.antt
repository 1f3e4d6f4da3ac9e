use Rattle.ppdb_tables.{specs.RawOf.{raw_of}, proofs.NumberedRows.{row_within}}
use Rattle.ppdb_verify_rules.proofs.{CellFaults.{refuted}, ImportFaults.{no_parent_first, cycle_first, next_0}}
use Rattle.ppdb_verify_rules.proofs.imports.judge_parent.Goals as goal

pub returns-then-names_no_row-clause-err : goal.returns-then-names_no_row-clause-err
returns-then-names_no_row-clause-err g c =
    no_parent_first (raw_of c.args.tables.now) c.args.row c.args.import.now c.requires.there c.fault.result c.requires.judged
    (c.names_no_row.ensures.0 c.if-names_no_row.true) c.fault.ensures

pub returns-then-never_ends-clause-err : goal.returns-then-never_ends-clause-err
returns-then-never_ends-clause-err g c =
    cycle_first (raw_of c.args.tables.now) c.args.row c.args.import.now c.requires.there c.fault-then-never_ends.result c.requires.judged
    (refuted c.names_no_row.result c.names_no_row.ensures c.if-names_no_row.false)
    (c.never_ends.ensures.value.0 c.if-never_ends.true) c.fault-then-never_ends.ensures

pub returns-clause-ok : goal.returns-clause-ok
returns-clause-ok g c = next_0 (raw_of c.args.tables.now) c.args.row c.args.import.now c.requires.there c.requires.judged
    (refuted c.names_no_row.result c.names_no_row.ensures c.if-names_no_row.false)
    (refuted c.never_ends.result c.never_ends.ensures.value c.if-never_ends.false)

pub never_ends-requires-clause-last : goal.never_ends-requires-clause-last
never_ends-requires-clause-last g c = (row_within (raw_of c.args.tables.now).imports c.args.row c.args.import.now c.requires.there).1

pub never_ends-requires-clause-first : goal.never_ends-requires-clause-first
never_ends-requires-clause-first g c = (row_within (raw_of c.args.tables.now).imports c.args.row c.args.import.now c.requires.there).0
