use Rattle.type_blobs.proofs.WrittenImports.{written_imports, written_import_fields, written_indexes}
use Rattle.type_blobs.proofs.laws.written_imports_are_read.Goals as goal

pub returns-clause-whole : goal.returns-clause-whole
returns-clause-whole c = written_imports

pub returns-clause-fields : goal.returns-clause-fields
returns-clause-fields c = written_import_fields

pub returns-clause-indexes : goal.returns-clause-indexes
returns-clause-indexes c = written_indexes
