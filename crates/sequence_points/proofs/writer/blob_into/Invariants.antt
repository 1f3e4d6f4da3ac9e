use Rattle.std.proofs.Common.{◌≡◌, ◌++◌, take, drop}
use Rattle.sequence_points.specs.{Written.{last_of, last_start, points_bytes, points_blob}, Following.{EachMayFollow}}
use Rattle.ppdb_base.specs.Written.{BeginsWith}
use Rattle.sequence_points.proofs.writer.blob_into.Given as goal

abbrev pub invariant-loop-point : goal.invariant-loop-point
invariant-loop-point l = record {
  last : l.last ≡ last_of (take l.point-index l.points);
  start : l.start ≡ last_start (take l.point-index l.points);
  follow : EachMayFollow (take l.point-index l.points) (drop l.point-index l.points);
  left : l.into ++ points_bytes (take l.point-index l.points) (drop l.point-index l.points) ≡ l.fn.into ++ points_blob l.signature l.points;
  begins : BeginsWith l.fn.into l.into;
}
