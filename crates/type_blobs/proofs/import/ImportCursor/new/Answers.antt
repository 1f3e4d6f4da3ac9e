use Rattle.type_blobs.{specs.ImportReading.{heap_of}, proofs.ImportsTaken.{imports_left-reads}}
use Rattle.type_blobs.proofs.import.ImportCursor.new.Goals as goal

pub returns : goal.returns
returns c = imports_left-reads c.args.limits (heap_of c.args.blobs) c.args.blob.now
