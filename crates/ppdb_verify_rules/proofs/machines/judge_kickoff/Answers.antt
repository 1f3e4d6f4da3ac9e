use Rattle.ppdb_tables.specs.RawOf.{raw_of}
use Rattle.ppdb_verify_rules.{specs.Seen.{Has}, proofs.CellFaults.{refuted}, proofs.MachineFaults.{no_kickoff_first, same_kickoff_first, next_1}}
use Rattle.ppdb_verify_rules.proofs.machines.judge_kickoff.Goals as goal

pub returns-then-names_no_row-clause-err : goal.returns-then-names_no_row-clause-err
returns-then-names_no_row-clause-err c =
    no_kickoff_first (raw_of c.args.tables.now) c.args.row c.args.machine.now c.requires.there c.fault.result c.requires.judged
    (c.names_no_row.ensures.0 c.if-names_no_row.true) c.fault.ensures

pub returns-then-not-is_new-clause-err : goal.returns-then-not-is_new-clause-err
returns-then-not-is_new-clause-err c =
    same_kickoff_first (raw_of c.args.tables.now) c.args.row c.args.machine.now c.requires.there c.fault-then-not-is_new.result c.requires.judged
    (refuted c.names_no_row.result c.names_no_row.ensures c.if-names_no_row.false)
    (c.requires.seen.sound c.args.machine.now.kickoff (rw c.if-not-is_new.true at c.in_ok-is_new.ensures.old)) c.fault-then-not-is_new.ensures

pub returns-clause-ok : goal.returns-clause-ok
returns-clause-ok c =
    let lacks : Has c.args.seen.now.items c.args.machine.now.kickoff → ⊥ = rw c.if-not-is_new.false at c.in_ok-is_new.ensures.new in
    next_1 (raw_of c.args.tables.now) c.args.row c.args.machine.now c.requires.there c.requires.judged
    (refuted c.names_no_row.result c.names_no_row.ensures c.if-names_no_row.false)
    (λ h. lacks (c.requires.seen.complete c.args.machine.now.kickoff h))
