use Rattle.std.proofs.Common.{subst, arith, All}
use Rattle.ppdb_values.specs.{declared.scope.ScopeValue.{ScopeValue}, Types.{IsNarrow}}
use Rattle.ppdb_build_limits.proofs.Firsts.{all_more, all_whole}
use Rattle.ppdb_build_limits.proofs.types.scopes_are_narrow.Goals as goal

pub loop-scope-preserved : goal.loop-scope-preserved
loop-scope-preserved c =
    all_more (λ (scope : ScopeValue). All IsNarrow scope.variables) c.args.scopes.now c.loop-scope.scope-index c.scope-item.result (omega arith)
    c.loop-scope.invariant
    (subst (λ (scope : ScopeValue). All IsNarrow scope.variables) c.scope-item.is (subst (All IsNarrow) c.as_slice.ensures c.variables_are_narrow.ensures))

pub returns : goal.returns
returns c = all_whole (λ (scope : ScopeValue). All IsNarrow scope.variables) c.args.scopes.now c.loop-scope.scope-index (omega arith) c.loop-scope.invariant
