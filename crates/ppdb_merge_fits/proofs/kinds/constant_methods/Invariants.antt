use Rattle.std.proofs.Common.{◌≡◌, take, map, flat_map}
use Rattle.ppdb_values.specs.declared.scope.ScopeValue.{ScopeValue}
use Rattle.ppdb_merge_fits.proofs.kinds.constant_methods.Given as goal

abbrev pub invariant-loop-scope : goal.invariant-loop-scope
invariant-loop-scope l = l.methods ≡ flat_map (λ (s : ScopeValue). map (λ item. s.method) s.constants) (take l.scope-index l.scopes)
