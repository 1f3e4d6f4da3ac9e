use Rattle.std.{proofs.Common.{◌≡◌, ◌+◌, List, [], take}, specs.List.{filter_map}}
use Rattle.ppdb_tables.specs.RawTables.{numbered}
use Rattle.ppdb_values.specs.declared.file.DocumentValue.{DocumentValue}
use Rattle.ppdb_merge.specs.{Indexes.{HoldsDocuments}, Refusals.{moved_conflict}}
use Rattle.ppdb_merge.proofs.documents.Documents.first_conflict.Given as goal

abbrev pub invariant-loop-document : goal.invariant-loop-document
invariant-loop-document l = record {
  row : l.row ≡ 1 + l.document-index;
  none : (all : List DocumentValue) → HoldsDocuments all l.self → filter_map (moved_conflict l.map all) (numbered (take l.document-index l.documents)) ≡ [];
}
