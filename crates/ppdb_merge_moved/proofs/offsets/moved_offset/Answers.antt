use Rattle.std.proofs.Common.{sym}
use Rattle.ppdb_base.proofs.Moved.{moved_is}
use Rattle.ppdb_merge_moved.proofs.PastEnd.{past_end}
use Rattle.ppdb_merge_moved.proofs.offsets.moved_offset.Goals as goal

pub returns-in-Some : goal.returns-in-Some
returns-in-Some g c = sym
    (moved_is (g.G.OffsetImage.offsets c.args.image.now) (g.met.G.OffsetImage.rise c.args.image.now) c.args.offset c.in-Some.next c.in-Some.ensures.some)

pub returns-in-None : goal.returns-in-None
returns-in-None g c = sym (past_end (g.G.OffsetImage.offsets c.args.image.now) (g.met.G.OffsetImage.rise c.args.image.now) c.args.offset c.in-None.ensures.none)
