use Rattle.std.proofs.Common.{◌≤◌, ◌-◌, ◌≡◌, Some, length}
use Rattle.ppdb_tables.specs.{declared.rows.ScopeRow.{ScopeRow}, RawTables.{row_at}, RawOf.{raw_of}}
use Rattle.ppdb_verify_rules.specs.Lists.{list_of}
use Rattle.ppdb_verify_rules.proofs.owners.owner_of.Given as goal

abbrev pub invariant-loop-owner : goal.invariant-loop-owner
invariant-loop-owner g l = record {
  on : l.before ≤ l.owner;
  within : l.owner ≤ length (raw_of l.tables).scopes;
  begun : (s : ScopeRow) → row_at (raw_of l.tables).scopes l.owner ≡ Some s → list_of l.list s ≤ l.row;
}

abbrev pub decreases-loop-owner : goal.decreases-loop-owner
decreases-loop-owner g l = length (raw_of l.tables).scopes - l.owner
