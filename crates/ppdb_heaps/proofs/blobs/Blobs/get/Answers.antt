use Rattle.std.proofs.Common.{arith, sym}
use Rattle.ppdb_heaps.proofs.Heaps.{blob_at-past}
use Rattle.ppdb_heaps.proofs.blobs.Blobs.get.Goals as goal

pub returns-then-bytes-at-clause-blob : goal.returns-then-bytes-at-clause-blob
returns-then-bytes-at-clause-blob c = sym (blob_at-past c.args.self.now.bytes.now c.args.index c.if-at-eq0.false (omega (arith, c.if-bytes-at.true)))
