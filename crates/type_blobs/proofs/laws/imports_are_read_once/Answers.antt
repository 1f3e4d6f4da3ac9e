use Rattle.blob_grammar.proofs.Unique.{read-once}
use Rattle.type_blobs.specs.Imports.{imports}
use Rattle.type_blobs.proofs.laws.imports_are_read_once.Goals as goal

pub returns : goal.returns
returns c limits heap blob = read-once (imports limits heap) blob
