use Rattle.std.{proofs.Common.{◌++◌, ◌∷◌, [], sym, ap, ◌∙◌, append-nil}, specs.List.{filter_map, cons_option}, proofs.lemmas.List.Elements.{filter_map-append}}
use Rattle.ppdb_merge_moved.proofs.moves.moved_all.Goals as goal

pub loop-item-preserved-in-Continue-branch-2 : goal.loop-item-preserved-in-Continue-branch-2
loop-item-preserved-in-Continue-branch-2 g c =
    let f = g.T.Stays.stays c.args.by.now in
    c.in_ok-push.ensures.ok ∙ ap (λ xs. xs ++ c.in-Some-stay_by.item ∷ []) c.loop-item.invariant
    ∙ ap (λ o. filter_map f c.loop-item.yielded ++ cons_option o []) (sym c.in-Some-stay_by.is ∙ c.stay_by.ensures)
    ∙ sym (filter_map-append f c.loop-item.yielded (c.in-Some.item ∷ []))

pub loop-item-preserved : goal.loop-item-preserved
loop-item-preserved g c =
    let f = g.T.Stays.stays c.args.by.now in
    c.loop-item.invariant ∙ sym (append-nil (filter_map f c.loop-item.yielded))
    ∙ ap (λ o. filter_map f c.loop-item.yielded ++ cons_option o []) (sym c.in_default.is ∙ c.stay_by.ensures)
    ∙ sym (filter_map-append f c.loop-item.yielded (c.in-Some.item ∷ []))
