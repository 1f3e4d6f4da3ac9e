use Rattle.std.{proofs.Common.{◌≡◌, ◌+◌, ◌-◌, ◌≤◌, ◌++◌, take}, specs.List.{filter_map}}
use Rattle.ppdb_values.specs.Value.{value_of}
use Rattle.ppdb_verify.specs.Views.{raw_file}
use Rattle.ppdb_merge.specs.Rows.{link_after}
use Rattle.ppdb_merge.proofs.row_links.add_links.Given as goal

abbrev pub invariant-rows : goal.invariant-rows
invariant-rows g l = record {
  from : 1 ≤ l.row;
  to : l.row ≤ l.count + 1;
  made : l.links ≡ l.initial.links ++ filter_map (link_after l.input.map) (take (l.row - 1) (value_of (raw_file l.input.file)).customs);
}

abbrev pub decreases-rows : goal.decreases-rows
decreases-rows g l = l.count + 1 - l.row
