use Rattle.ppdb_tables.specs.RawOf.{raw_of}
use Rattle.ppdb_verify_rules.proofs.MachineFaults.{past_row}
use Rattle.ppdb_verify_rules.proofs.machines.judge_machine.Goals as goal

pub returns-clause-ok : goal.returns-clause-ok
returns-clause-ok g c = past_row (raw_of c.args.tables.now) c.args.row c.args.machine.now c.requires.there c.in_ok-judge_kickoff.ensures.ok
