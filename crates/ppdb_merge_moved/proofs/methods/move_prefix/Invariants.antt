use Rattle.std.proofs.Common.{◌≡◌, ◌≤◌, ◌++◌, take, drop}
use Rattle.sequence_points.specs.MovedPoints.{moved_points}
use Rattle.ppdb_merge_moved.proofs.methods.move_prefix.Given as goal

abbrev pub invariant-loop-place : goal.invariant-loop-place
invariant-loop-place g l = record {
  within : l.stay ≤ l.place;
  done : moved_points (g.G.OffsetImage.offsets l.image) l.initial.points ≡ take l.stay l.points
      ++ moved_points (g.G.OffsetImage.offsets l.image) (drop l.place l.initial.points);
  left : drop l.place l.points ≡ drop l.place l.initial.points;
}
