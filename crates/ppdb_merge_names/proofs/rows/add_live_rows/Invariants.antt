use Rattle.std.{proofs.Common.{◌≡◌, length}, specs.List.{filter}}
use Rattle.ppdb_merge_names.{specs.References.{inside, is_live}, proofs.Going.{Leads}}
use Rattle.ppdb_merge_names.proofs.rows.add_live_rows.Given as goal

abbrev pub invariant-rows : goal.invariant-rows
invariant-rows g l =
    let m = l.fn.imager.map in
    record {
      same_map : l.imager.map ≡ m;
      leads : Leads l.fn.imager (inside l.table l.row l.column (filter (is_live m) (g.W.RowWalk.left l.fn.walk))) l.imager
          (inside l.table l.row l.column (filter (is_live m) (g.W.RowWalk.left l.walk)));
    }

abbrev pub decreases-rows : goal.decreases-rows
decreases-rows g l = length (g.W.RowWalk.left l.walk)
