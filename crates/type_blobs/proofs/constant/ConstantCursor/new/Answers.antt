use Rattle.type_blobs.proofs.ConstantsRead.{constant_left-reads}
use Rattle.type_blobs.proofs.constant.ConstantCursor.new.Goals as goal

pub returns : goal.returns
returns c = constant_left-reads c.args.limits c.args.blob.now
