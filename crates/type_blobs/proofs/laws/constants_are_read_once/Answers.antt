use Rattle.blob_grammar.proofs.Unique.{read-once}
use Rattle.type_blobs.specs.Constants.{constants}
use Rattle.type_blobs.proofs.laws.constants_are_read_once.Goals as goal

pub returns : goal.returns
returns c limits blob = read-once (constants limits) blob
