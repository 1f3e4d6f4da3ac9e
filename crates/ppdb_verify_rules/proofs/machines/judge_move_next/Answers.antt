use Rattle.ppdb_tables.specs.RawOf.{raw_of}
use Rattle.ppdb_verify_rules.proofs.{CellFaults.{refuted}, MachineFaults.{no_move_next_first, out_of_order_first, next_0}}
use Rattle.ppdb_verify_rules.proofs.machines.judge_move_next.Goals as goal

pub returns-then-names_no_row-clause-err : goal.returns-then-names_no_row-clause-err
returns-then-names_no_row-clause-err g c =
    no_move_next_first (raw_of c.args.tables.now) c.args.row c.args.machine.now c.requires.there c.fault.result c.requires.judged
    (c.names_no_row.ensures.0 c.if-names_no_row.true) c.fault.ensures

pub returns-then-is_out_of_order-clause-err : goal.returns-then-is_out_of_order-clause-err
returns-then-is_out_of_order-clause-err g c =
    out_of_order_first (raw_of c.args.tables.now) c.args.row c.args.machine.now c.requires.there c.fault-then-is_out_of_order.result c.requires.judged
    (refuted c.names_no_row.result c.names_no_row.ensures c.if-names_no_row.false)
    (c.is_out_of_order.ensures.0 c.if-is_out_of_order.true) c.fault-then-is_out_of_order.ensures

pub returns-clause-ok : goal.returns-clause-ok
returns-clause-ok g c = next_0 (raw_of c.args.tables.now) c.args.row c.args.machine.now c.requires.there c.requires.judged
    (refuted c.names_no_row.result c.names_no_row.ensures c.if-names_no_row.false)
    (refuted c.is_out_of_order.result c.is_out_of_order.ensures c.if-is_out_of_order.false)
