use Rattle.std.{proofs.Common.{◌≡◌, ◌+◌, ◌-◌, ◌≤◌, [], take}, specs.List.{filter_map}}
use Rattle.ppdb_tables.specs.RawTables.{numbered}
use Rattle.ppdb_values.specs.Value.{value_of}
use Rattle.ppdb_verify.specs.Views.{raw_file}
use Rattle.ppdb_merge.specs.Indexes.{link_row}
use Rattle.ppdb_merge.proofs.row_links.first_link_in.Given as goal

abbrev pub invariant-rows : goal.invariant-rows
invariant-rows g l = record {
  from : 1 ≤ l.row;
  to : l.row ≤ l.count + 1;
  none : filter_map link_row (take (l.row - 1) (numbered (value_of (raw_file l.file)).customs)) ≡ [];
}

abbrev pub decreases-rows : goal.decreases-rows
decreases-rows g l = l.count + 1 - l.row
