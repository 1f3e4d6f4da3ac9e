use Rattle.std.proofs.{Common.{◌<◌, length, set, sym, ap, ◌∙◌, arith}, lemmas.List.Edits.{map_over_more}}
use Rattle.ppdb_merge_joined.proofs.renumbering.renumber_all.Goals as goal

pub loop-item-preserved : goal.loop-item-preserved
loop-item-preserved g c =
    let less : c.loop-item.item-index < length c.args.items.now = omega arith in
    ap (λ x. set c.loop-item.items c.loop-item.item-index x) (c.renumber.ensures ∙ ap (g.T.Renumbers.renumbered c.args.by.now) (sym c.item-item.is))
    ∙ map_over_more (g.T.Renumbers.renumbered c.args.by.now) c.args.items.now c.loop-item.items c.loop-item.item-index c.item-item.result less
    c.loop-item.invariant c.item-item.is
