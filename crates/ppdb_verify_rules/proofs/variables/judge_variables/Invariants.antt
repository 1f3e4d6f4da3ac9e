use Rattle.ppdb_tables.specs.RawOf.{raw_of}
use Rattle.ppdb_verify_rules.specs.{Judged.{ToRow}, Seen.{AreSlots, AreVariableNames, OwnsBefore}}
use Rattle.ppdb_verify_rules.proofs.variables.judge_variables.Given as goal

abbrev pub invariant-loop-row : goal.invariant-loop-row
invariant-loop-row g l = record {
  judged : ToRow (raw_of l.tables) 0x33 l.row;
  before : OwnsBefore (λ s. s.variables) (raw_of l.tables).scopes l.owner l.row;
  slots : AreSlots (raw_of l.tables).scopes (raw_of l.tables).variables l.row l.owner l.slots.items;
  names : AreVariableNames (raw_of l.tables) l.row l.owner l.names;
}
