use Rattle.std.proofs.Common.{arith}
use Rattle.type_blobs.proofs.BodiesTaken.{object_end, object_more}
use Rattle.type_blobs.proofs.constant.object_at.Goals as goal

pub returns-then-at-blob : goal.returns-then-at-blob
returns-then-at-blob c = object_end c.args.limits c.args.blob.now c.args.at c.if-at-blob.true

pub returns-else-at-blob : goal.returns-else-at-blob
returns-else-at-blob c = rw c.out_of_range.ensures (object_more c.args.limits c.args.blob.now c.args.at (omega arith))
