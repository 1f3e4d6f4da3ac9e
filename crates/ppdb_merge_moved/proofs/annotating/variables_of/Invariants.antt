use Rattle.std.{proofs.Common.{◌≡◌, length, take}, specs.List.{sum_by}}
use Rattle.ppdb_values.specs.declared.scope.ScopeValue.{ScopeValue}
use Rattle.ppdb_merge_moved.proofs.annotating.variables_of.Given as goal

abbrev pub invariant-loop-scope : goal.invariant-loop-scope
invariant-loop-scope l = l.variables ≡ sum_by (λ (s : ScopeValue). length s.variables) (take l.scope-index l.scopes)
