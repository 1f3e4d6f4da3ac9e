use Rattle.std.proofs.Common.{◌≡◌, ◌++◌, map, take, drop}
use Rattle.ppdb_merge_moved.proofs.moves.move_all.Given as goal

abbrev pub invariant-loop-item : goal.invariant-loop-item
invariant-loop-item g l = l.items ≡ map (g.T.Moves.moved l.by) (take l.item-index l.initial.items) ++ drop l.item-index l.initial.items
