use Rattle.ppdb_tables.specs.RawOf.{raw_of}
use Rattle.ppdb_verify_rules.proofs.{SeenSets.{kickoffs_at_first}, MachineFaults.{first_row}}
use Rattle.ppdb_verify_rules.proofs.machines.judge_machines.Goals as goal

pub loop-row-init : goal.loop-row-init
loop-row-init g c = record {
  judged = first_row (raw_of c.args.tables.now) c.requires.judged;
  seen = kickoffs_at_first (raw_of c.args.tables.now).machines c.new-seen.result.items c.new-seen.ensures.items;
}
