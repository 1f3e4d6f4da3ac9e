use Rattle.std.proofs.Common.{sym, ◌∙◌, ap, ◌++◌, map}
use Rattle.ppdb_values.specs.declared.scope.ScopeValue.{ScopeValue}
use Rattle.ppdb_merge_fits.proofs.First.{flat_next}
use Rattle.ppdb_merge_fits.proofs.kinds.variable_methods.Goals as goal

pub loop-scope-preserved : goal.loop-scope-preserved
loop-scope-preserved c =
    c.in_ok-put_for_each.ensures ∙ ap (λ l. c.loop-scope.methods ++ map (λ item. c.scope-item.result.method) l) c.as_slice.ensures
    ∙ ap (λ l. l ++ map (λ item. c.scope-item.result.method) c.scope-item.result.variables) c.loop-scope.invariant
    ∙ sym (flat_next (λ (s : ScopeValue). map (λ item. s.method) s.variables) c.args.scopes.now c.loop-scope.scope-index c.scope-item.result
    c.loop-scope-test.true
    c.scope-item.is)
