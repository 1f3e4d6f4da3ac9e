use Rattle.std.proofs.{Common.{◌<◌, length, set, sym, ap, ◌∙◌, arith}, lemmas.List.Edits.{map_over_more}}
use Rattle.ppdb_merge_moved.specs.Moved.{linked}
use Rattle.ppdb_merge_moved.proofs.named.link_customs.Goals as goal

pub loop-custom-preserved : goal.loop-custom-preserved
loop-custom-preserved c =
    let less : c.loop-custom.custom-index < length c.args.customs.now = omega arith in
    ap (λ x. set c.loop-custom.customs c.loop-custom.custom-index x)
    (c.in_ok-link_custom.ensures ∙ ap (linked c.args.by.now) (sym c.custom-item.is))
    ∙ map_over_more (linked c.args.by.now) c.args.customs.now c.loop-custom.customs c.loop-custom.custom-index c.custom-item.result less
    c.loop-custom.invariant c.custom-item.is
