use Rattle.ppdb_merge_moved.proofs.AtRows.{placed_more}
use Rattle.ppdb_merge_moved.proofs.annotating.OnRows.place_all.Goals as goal

pub loop-custom-preserved : goal.loop-custom-preserved
loop-custom-preserved c = λ d s v k i empty. placed_more c.loop-custom.yielded d s v k i c.in-Some.custom c.loop-custom.self c.place.new.self
    (c.loop-custom.invariant d s v k i empty) c.in_ok-place.ensures
