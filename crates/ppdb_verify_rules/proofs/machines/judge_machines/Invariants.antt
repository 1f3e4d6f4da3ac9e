use Rattle.ppdb_tables.specs.RawOf.{raw_of}
use Rattle.ppdb_verify_rules.specs.{Judged.{ToRow}, Seen.{AreKickoffs}}
use Rattle.ppdb_verify_rules.proofs.machines.judge_machines.Given as goal

abbrev pub invariant-loop-row : goal.invariant-loop-row
invariant-loop-row g l = record {
  judged : ToRow (raw_of l.tables) 0x36 l.row;
  seen : AreKickoffs (raw_of l.tables).machines l.row l.seen.items;
}
