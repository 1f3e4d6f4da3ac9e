use Rattle.std.{proofs.Common.{subst}, specs.Prelude.{◌↔◌, IsTrue}}
use Rattle.ppdb_base.specs.Offsets.{KeepsBetween}
use Rattle.sequence_points_moved.proofs.Until.{at_stop, at_next, at_none}
use Rattle.sequence_points_moved.proofs.moving.image_before.Goals as goal

pub returns-in-Some-clause-image : goal.returns-in-Some-clause-image
returns-in-Some-clause-image g c =
    at_stop (g.G.OffsetImage.offsets c.args.image.now)
    (g.met.G.OffsetImage.rise c.args.image.now) c.args.offset c.in-Some.found _ c.in-Some.ensures.some c.requires.below c.requires.holds

pub returns-then-kept_between-clause-image : goal.returns-then-kept_between-clause-image
returns-then-kept_between-clause-image g c =
    at_next (g.G.OffsetImage.offsets c.args.image.now)
    (g.met.G.OffsetImage.rise c.args.image.now) c.args.offset _ c.kept_between.result c.next_image.result
    (subst (λ end. IsTrue c.kept_between.result ↔ KeepsBetween (g.G.OffsetImage.offsets c.args.image.now) c.args.offset end)
    c.end.ensures.offset c.kept_between.ensures) c.if-kept_between.true c.next_image.ensures.some c.next_image.ensures.none

pub returns-else-kept_between-clause-image : goal.returns-else-kept_between-clause-image
returns-else-kept_between-clause-image g c =
    at_none (g.G.OffsetImage.offsets c.args.image.now)
    (g.met.G.OffsetImage.rise c.args.image.now) c.args.offset _ c.kept_between.result
    (subst (λ end. IsTrue c.kept_between.result ↔ KeepsBetween (g.G.OffsetImage.offsets c.args.image.now) c.args.offset end)
    c.end.ensures.offset c.kept_between.ensures) c.if-kept_between.false
