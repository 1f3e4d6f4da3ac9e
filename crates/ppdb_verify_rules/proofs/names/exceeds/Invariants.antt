use Rattle.std.proofs.Common.{List, length, [], ℕ}
use Rattle.ppdb_heaps.{specs.Views.{blobs_of}, proofs.Joins.{Joining}}
use Rattle.ppdb_verify_rules.specs.SeenNames.{HasRoom}
use Rattle.ppdb_verify_rules.proofs.names.exceeds.Given as goal

abbrev pub decreases-loop-part : goal.decreases-loop-part
decreases-loop-part l = length l.cursor.left.items

abbrev pub invariant-loop-part : goal.invariant-loop-part
invariant-loop-part l = (into : List ℕ) × Joining (blobs_of l.fn.blobs) l.fn.content [] l.separator into l.cursor.left × HasRoom l.most into l.room
