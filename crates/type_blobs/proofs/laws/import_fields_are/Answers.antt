use Rattle.type_blobs.proofs.ImportFieldsAre.{import_fields-are, import_indexes-are}
use Rattle.type_blobs.proofs.laws.import_fields_are.Goals as goal

pub returns-clause-fields : goal.returns-clause-fields
returns-clause-fields c = import_fields-are

pub returns-clause-indexes : goal.returns-clause-indexes
returns-clause-indexes c = import_indexes-are
