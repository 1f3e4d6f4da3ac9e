use Rattle.std.proofs.Common.{◌≡◌, length}
use Rattle.sequence_points_moved.specs.{MovedBlob.{moved_in}, Writing.{CanAllMove}}
use Rattle.sequence_points_moved.proofs.moving.next_moved.Given as goal

abbrev pub invariant-points : goal.invariant-points
invariant-points g l = record {
  same : moved_in (g.G.OffsetImage.offsets l.fn.image) l.fn.documents l.fn.points ≡ moved_in (g.G.OffsetImage.offsets l.fn.image) l.fn.documents l.points;
  can : CanAllMove (g.G.OffsetImage.offsets l.fn.image) l.fn.documents l.points;
}

abbrev pub decreases-points : goal.decreases-points
decreases-points g l = length l.points
