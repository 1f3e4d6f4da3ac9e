use Rattle.std.proofs.Common.{◌≡◌, map, take}
use Rattle.ppdb_values_check.proofs.differ.numbers_differ.Given as goal

abbrev pub invariant-loop-item : goal.invariant-loop-item
invariant-loop-item g l = l.numbers.items ≡ map g.T.Numbered.number_of (take l.item-index l.items)
