use Rattle.type_blobs.{specs.ImportReading.{heap_of}, proofs.FieldsLeft.{whole-fields, whole-end}}
use Rattle.type_blobs.proofs.import_fields.ImportFields.new.Goals as goal

pub returns-clause-fields : goal.returns-clause-fields
returns-clause-fields c = whole-fields c.args.limits (heap_of c.args.blobs) c.args.blob.now

pub returns-clause-end : goal.returns-clause-end
returns-clause-end c = whole-end c.args.limits (heap_of c.args.blobs) c.args.blob.now
