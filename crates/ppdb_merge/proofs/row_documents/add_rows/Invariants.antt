use Rattle.std.proofs.Common.{◌+◌, ◌-◌, ◌≤◌, ◌++◌, List, [], map, take}
use Rattle.ppdb_values.specs.{Value.{value_of}, declared.file.DocumentValue.{DocumentValue}}
use Rattle.ppdb_verify.specs.Views.{raw_file}
use Rattle.ppdb_merge_joined.specs.Joined.{firsts}
use Rattle.ppdb_merge_moved.specs.Moved.{moved_document}
use Rattle.ppdb_merge.specs.Indexes.{HoldsDocuments}
use Rattle.ppdb_merge.proofs.row_documents.add_rows.Given as goal

abbrev pub invariant-rows : goal.invariant-rows
invariant-rows g l = record {
  from : 1 ≤ l.row;
  to : l.row ≤ l.count + 1;
  holds : (all : List DocumentValue) → HoldsDocuments (firsts [] all) l.initial.documents
      → HoldsDocuments (firsts [] (all ++ map (moved_document l.input.map) (take (l.row - 1) (value_of (raw_file l.input.file)).documents))) l.documents;
}

abbrev pub decreases-rows : goal.decreases-rows
decreases-rows g l = l.count + 1 - l.row
