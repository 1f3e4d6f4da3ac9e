use Rattle.std.proofs.Common.{refl}
use Rattle.ppdb_heaps.proofs.Zeros.{no_text}
use Rattle.ppdb_heaps.proofs.strings.Strings.get.Goals as goal

pub returns-then-self-at : goal.returns-then-self-at
returns-then-self-at c = rw (no_text c.args.self.now.bytes.now c.args.self.now.end c.args.index c.args.self.now.ended c.if-self-at.true c.if-at-eq0.false) refl
