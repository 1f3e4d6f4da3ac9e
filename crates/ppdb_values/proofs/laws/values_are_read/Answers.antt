use Rattle.custom_info.specs.{HoistedScopes.{hoisted_scopes}, TypeDocuments.{type_documents}}
use Rattle.type_blobs.specs.Imports.{imports}
use Rattle.ppdb_tables.specs.RawTables.{count}
use Rattle.ppdb_heaps.specs.Heaps.{blob_at}
use Rattle.ppdb_values.{specs.RawFile.{type_limits}, proofs.Readings.{records_are, name_is, points_are, signature_is, stepping_is}}
use Rattle.ppdb_values.proofs.laws.values_are_read.Goals as goal

pub returns : goal.returns
returns c = record {
  name = name_is;
  points = points_are;
  signature = signature_is;
  imports = λ raw content items fault h. records_are (imports (type_limits raw) (blob_at raw.blobs)) content items fault h;
  slots = λ content slots fault h. records_are hoisted_scopes content slots fault h;
  rows = λ raw content rows fault h. records_are (type_documents (count raw 0x30)) content rows fault h;
  stepping = stepping_is;
}
