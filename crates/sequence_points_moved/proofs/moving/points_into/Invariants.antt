use Rattle.std.proofs.Common.{◌∷◌, length}
use Rattle.sequence_points_moved.{specs.MovedBlob.{moved_in}, specs.Writing.{CanAllMove, coming}, proofs.Walk.{Progress}}
use Rattle.sequence_points_moved.proofs.moving.points_into.Given as goal

abbrev pub invariant-points : goal.invariant-points
invariant-points g l = record {
  progress : Progress l.in_one l.first (l.first ∷ moved_in (g.G.OffsetImage.offsets l.fn.image) l.fn.documents l.fn.points)
      (coming l.next (moved_in (g.G.OffsetImage.offsets l.fn.image) l.fn.documents l.points)) l.written l.fn.into l.into;
  can : CanAllMove (g.G.OffsetImage.offsets l.fn.image) l.fn.documents l.points;
}

abbrev pub decreases-points : goal.decreases-points
decreases-points g l = length (coming l.next (moved_in (g.G.OffsetImage.offsets l.fn.image) l.fn.documents l.points))
