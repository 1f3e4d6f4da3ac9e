use Rattle.std.proofs.Common.{◌≡◌, ◌-◌, Some}
use Rattle.ppdb_tables.specs.{declared.rows.ScopeRow.{ScopeRow}, RawTables.{row_at}, RawOf.{raw_of}}
use Rattle.ppdb_verify_rules.specs.{Judged.{ToRow}, Open.{AreOpen}}
use Rattle.ppdb_verify_rules.proofs.scopes.judge_scopes.Given as goal

abbrev pub invariant-loop-row : goal.invariant-loop-row
invariant-loop-row g l = record {
  judged : ToRow (raw_of l.tables) 0x32 l.row;
  opened : (b : ScopeRow) → row_at (raw_of l.tables).scopes (l.row - 1) ≡ Some b → AreOpen (raw_of l.tables).scopes l.row b.method b.start l.ends.items;
}
