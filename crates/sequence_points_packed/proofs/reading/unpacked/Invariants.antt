use Rattle.std.{proofs.Common.{◌≡◌, ◌++◌, length}, specs.Prelude.{None}}
use Rattle.sequence_points_packed.specs.Packed.{points_in}
use Rattle.sequence_points_packed.proofs.reading.unpacked.Given as goal

abbrev pub invariant-points : goal.invariant-points
invariant-points l = record {
  whole : l.cursor.left.fault ≡ None;
  read : l.points ++ l.cursor.left.items ≡ points_in l.column l.blob;
}

abbrev pub decreases-points : goal.decreases-points
decreases-points l = length l.cursor.left.items
