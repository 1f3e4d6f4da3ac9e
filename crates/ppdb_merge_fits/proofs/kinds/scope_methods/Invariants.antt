use Rattle.std.proofs.Common.{◌≡◌, take, map}
use Rattle.ppdb_values.specs.declared.scope.ScopeValue.{ScopeValue}
use Rattle.ppdb_merge_fits.proofs.kinds.scope_methods.Given as goal

abbrev pub invariant-loop-scope : goal.invariant-loop-scope
invariant-loop-scope l = l.methods ≡ map (λ (s : ScopeValue). s.method) (take l.scope-index l.scopes)
