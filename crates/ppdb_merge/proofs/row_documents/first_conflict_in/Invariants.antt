use Rattle.std.{proofs.Common.{◌≡◌, ◌+◌, ◌-◌, ◌≤◌, List, [], take}, specs.List.{filter_map}}
use Rattle.ppdb_tables.specs.RawTables.{numbered}
use Rattle.ppdb_values.specs.{Value.{value_of}, declared.file.DocumentValue.{DocumentValue}}
use Rattle.ppdb_verify.specs.Views.{raw_file}
use Rattle.ppdb_merge.specs.{Indexes.{HoldsDocuments}, Refusals.{moved_conflict}}
use Rattle.ppdb_merge.proofs.row_documents.first_conflict_in.Given as goal

abbrev pub invariant-rows : goal.invariant-rows
invariant-rows g l = record {
  from : 1 ≤ l.row;
  to : l.row ≤ l.count + 1;
  none : (all : List DocumentValue) → HoldsDocuments all l.documents
      → filter_map (moved_conflict l.map all) (take (l.row - 1) (numbered (value_of (raw_file l.file)).documents)) ≡ [];
}

abbrev pub decreases-rows : goal.decreases-rows
decreases-rows g l = l.count + 1 - l.row
