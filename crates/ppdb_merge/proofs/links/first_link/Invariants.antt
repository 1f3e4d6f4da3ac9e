use Rattle.std.{proofs.Common.{◌≡◌, ◌+◌, [], take}, specs.List.{filter_map}}
use Rattle.ppdb_tables.specs.RawTables.{numbered}
use Rattle.ppdb_merge.specs.Indexes.{link_row}
use Rattle.ppdb_merge.proofs.links.first_link.Given as goal

abbrev pub invariant-loop-custom : goal.invariant-loop-custom
invariant-loop-custom l = record {
  row : l.row ≡ 1 + l.custom-index;
  none : filter_map link_row (numbered (take l.custom-index l.customs)) ≡ [];
}
