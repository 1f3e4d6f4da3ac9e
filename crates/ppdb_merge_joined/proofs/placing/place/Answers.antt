use Rattle.ppdb_merge_joined.proofs.Placed.{map_more}
use Rattle.ppdb_merge_joined.proofs.placing.place.Goals as goal

pub loop-note-preserved : goal.loop-note-preserved
loop-note-preserved c = map_more _ _ _ _ _ _ c.loop-note.invariant c.in_ok-push.ensures.ok
