use Rattle.ppdb_merge_joined.proofs.Placed.{placed_more, items_more, count_more}
use Rattle.ppdb_merge_joined.proofs.placing.take_apart.Goals as goal

pub loop-item-preserved : goal.loop-item-preserved
loop-item-preserved g c = record {
  items = items_more _ _ _ _ c.loop-item.invariant.items c.in_ok-push.ensures.ok;
  customs = placed_more _ _ _ _ _ _ _ _ c.loop-item.invariant.customs c.loop-item.invariant.row c.in_ok-place.ensures;
  row = count_more _ _ _ _ c.loop-item.invariant.row;
}
