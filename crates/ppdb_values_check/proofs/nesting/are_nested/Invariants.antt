use Rattle.ppdb_values_check.specs.{Pairs.{PairsBelow}, Scopes.{IsNested, WasOpen}}
use Rattle.ppdb_values_check.proofs.nesting.are_nested.Given as goal

abbrev pub invariant-loop-place : goal.invariant-loop-place
invariant-loop-place l = record {
  nested : PairsBelow IsNested l.scopes l.place;
  opened : WasOpen l.scopes l.place l.ends.items;
}
