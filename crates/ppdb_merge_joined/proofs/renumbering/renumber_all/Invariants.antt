use Rattle.std.proofs.Common.{◌≡◌, ◌++◌, map, take, drop}
use Rattle.ppdb_merge_joined.proofs.renumbering.renumber_all.Given as goal

abbrev pub invariant-loop-item : goal.invariant-loop-item
invariant-loop-item g l = l.items ≡ map (g.T.Renumbers.renumbered l.by) (take l.item-index l.initial.items) ++ drop l.item-index l.initial.items
