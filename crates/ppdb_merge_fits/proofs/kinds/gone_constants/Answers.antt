use Rattle.std.proofs.{Common.{sym, ◌∙◌, ap, ◌++◌, map, flat_map, take}, lemmas.List.{map-append}}
use Rattle.ppdb_values.specs.declared.scope.ScopeValue.{ScopeValue}
use Rattle.ppdb_merge_items.specs.NamedRows.{goes_constant}
use Rattle.ppdb_merge_fits.proofs.First.{flat_next}
use Rattle.ppdb_merge_fits.proofs.kinds.gone_constants.Goals as goal

pub loop-scope-preserved : goal.loop-scope-preserved
loop-scope-preserved c =
    let goes = goes_constant c.args.by.now in
    let own = λ (s : ScopeValue). s.constants in
    c.in_ok-add_gone.ensures ∙ ap (λ l. c.loop-scope.gone ++ map goes l) c.as_slice.ensures
    ∙ ap (λ l. l ++ map goes c.scope-item.result.constants) c.loop-scope.invariant
    ∙ sym (map-append goes (flat_map own (take c.loop-scope.scope-index c.args.scopes.now)) c.scope-item.result.constants)
    ∙ ap (map goes) (sym (flat_next own c.args.scopes.now c.loop-scope.scope-index c.scope-item.result c.loop-scope-test.true c.scope-item.is))
