use Rattle.std.proofs.Common.{length, ◌++◌}
use Rattle.sequence_points.specs.Points.{PointsReading}
use Rattle.tests_blobs_program.proofs.points.read_points.Given as goal

abbrev pub invariant-points : goal.invariant-points
invariant-points l = PointsReading l.fn.column l.fn.limits l.fn.blob l.cursor.signature (l.points ++ l.cursor.left.items) l.cursor.left.fault

abbrev pub decreases-points : goal.decreases-points
decreases-points l = length l.cursor.left.items
