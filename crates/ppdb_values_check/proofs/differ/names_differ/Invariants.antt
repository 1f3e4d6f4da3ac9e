use Rattle.std.proofs.Common.{◌≡◌, map, take}
use Rattle.ppdb_values_check.proofs.differ.names_differ.Given as goal

abbrev pub invariant-loop-item : goal.invariant-loop-item
invariant-loop-item g l = map (λ name. name.now) l.names.items ≡ map g.T.Named.name_of (take l.item-index l.items)
