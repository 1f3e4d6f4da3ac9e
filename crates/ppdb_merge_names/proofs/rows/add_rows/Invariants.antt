use Rattle.std.proofs.Common.{length}
use Rattle.ppdb_merge_names.{specs.References.{inside}, proofs.Going.{Leads}}
use Rattle.ppdb_merge_names.proofs.rows.add_rows.Given as goal

abbrev pub invariant-rows : goal.invariant-rows
invariant-rows g l =
    Leads l.fn.imager (inside l.table l.row l.column (g.W.RowWalk.left l.fn.walk)) l.imager (inside l.table l.row l.column (g.W.RowWalk.left l.walk))

abbrev pub decreases-rows : goal.decreases-rows
decreases-rows g l = length (g.W.RowWalk.left l.walk)
