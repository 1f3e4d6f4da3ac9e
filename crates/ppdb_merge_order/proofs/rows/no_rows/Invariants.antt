use Rattle.std.proofs.Common.{◌≡◌, map, take}
use Rattle.ppdb_merge_order.specs.NewRows.{none_noted}
use Rattle.ppdb_merge_order.proofs.rows.no_rows.Given as goal

abbrev pub invariant-loop-count : goal.invariant-loop-count
invariant-loop-count l = l.lists.items ≡ map none_noted (take l.count-index l.counts)
