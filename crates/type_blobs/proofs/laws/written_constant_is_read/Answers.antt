use Rattle.type_blobs.proofs.WrittenConstants.{written_constant}
use Rattle.type_blobs.proofs.laws.written_constant_is_read.Goals as goal

pub returns : goal.returns
returns c = written_constant
