use Rattle.std.proofs.Common.{◌≡◌, ◌≤◌, ◌-◌}
use Rattle.ppdb_verify.specs.Views.{raw_file}
use Rattle.ppdb_merge_names.{specs.Lists.{of_list}, proofs.Going.{Leads}}
use Rattle.ppdb_merge_names.proofs.constants.add_list.Given as goal

abbrev pub invariant-rows : goal.invariant-rows
invariant-rows g l =
    let raw = (raw_file l.file).tables in
    let m = l.fn.imager.map in
    record {
      low : l.list.first ≤ l.row;
      high : l.row ≤ l.list.end;
      same_map : l.imager.map ≡ m;
      leads : Leads l.fn.imager (of_list m raw l.list) l.imager (of_list m raw (record { first = l.row; end = l.list.end }));
    }

abbrev pub decreases-rows : goal.decreases-rows
decreases-rows g l = l.list.end - l.row
