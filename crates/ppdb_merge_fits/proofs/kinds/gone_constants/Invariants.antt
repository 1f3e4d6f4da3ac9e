use Rattle.std.proofs.Common.{◌≡◌, take, map, flat_map}
use Rattle.ppdb_values.specs.declared.scope.ScopeValue.{ScopeValue}
use Rattle.ppdb_merge_items.specs.NamedRows.{goes_constant}
use Rattle.ppdb_merge_fits.proofs.kinds.gone_constants.Given as goal

abbrev pub invariant-loop-scope : goal.invariant-loop-scope
invariant-loop-scope l = l.gone ≡ map (goes_constant l.by) (flat_map (λ (s : ScopeValue). s.constants) (take l.scope-index l.scopes))
