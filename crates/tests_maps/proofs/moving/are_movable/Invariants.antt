use Rattle.std.proofs.Common.{◌≡◌, length}
use Rattle.ppdb_maps.specs.Says.{offsets_of}
use Rattle.sequence_points_moved.specs.Conditions.{IsMovable, Seen}
use Rattle.tests_maps.proofs.moving.are_movable.Given as goal

abbrev pub invariant-points : goal.invariant-points
invariant-points l = record {
  seen : Seen (IsMovable (offsets_of l.fn.map.says)) l.initial.cursor.left.items l.cursor.left.items;
  fault : l.cursor.left.fault ≡ l.initial.cursor.left.fault;
}

abbrev pub decreases-points : goal.decreases-points
decreases-points l = length l.cursor.left.items
