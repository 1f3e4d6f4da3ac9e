use Rattle.std.{proofs.Common.{take}, specs.Prelude.{All}}
use Rattle.ppdb_values_check.specs.Scopes.{HasDistinctItems}
use Rattle.ppdb_values_check.proofs.scopes.have_distinct_items.Given as goal

abbrev pub invariant-loop-scope : goal.invariant-loop-scope
invariant-loop-scope l = All HasDistinctItems (take l.scope-index l.scopes)
