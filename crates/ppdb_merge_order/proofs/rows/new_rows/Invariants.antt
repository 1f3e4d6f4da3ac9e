use Rattle.std.proofs.Common.{take}
use Rattle.ppdb_merge_order.specs.NewRows.{AreNewRows}
use Rattle.ppdb_merge_order.proofs.rows.new_rows.Given as goal

abbrev pub invariant-loop-index : goal.invariant-loop-index
invariant-loop-index l = AreNewRows l.fn.counts (take l.index l.keys) l.lists.items
