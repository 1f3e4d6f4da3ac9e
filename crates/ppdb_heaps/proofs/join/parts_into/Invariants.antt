use Rattle.std.proofs.Common.{◌≡◌, ◌++◌, List, ℕ, length}
use Rattle.ppdb_heaps.{specs.Views.{blobs_of}, proofs.Joins.{Joining}}
use Rattle.ppdb_heaps.proofs.join.parts_into.Given as goal

abbrev pub decreases-loop-part : goal.decreases-loop-part
decreases-loop-part l = length l.cursor.left.items

abbrev pub invariant-loop-part : goal.invariant-loop-part
invariant-loop-part l = Joining (blobs_of l.fn.blobs) l.fn.blob l.fn.into l.separator l.into l.cursor.left × ((more : List ℕ) × (l.into ≡ l.fn.into ++ more))
