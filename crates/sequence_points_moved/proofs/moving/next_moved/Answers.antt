use Rattle.std.proofs.Common.{refl, ◌∙◌}
use Rattle.sequence_points_moved.proofs.{Stays.{stays, goes}, Left.{first_can, others_can, before_next}}
use Rattle.sequence_points_moved.proofs.moving.next_moved.Goals as goal

pub image_before-requires-clause-below : goal.image_before-requires-clause-below
image_before-requires-clause-below g c =
    let o = g.G.OffsetImage.offsets c.args.image.now in
    let d = c.args.documents.now in
    (first_can o d c.points.points c.in-Some.point c.pop.new.self c.in-Some.ensures c.points.invariant.can).below

pub image_before-requires-clause-holds : goal.image_before-requires-clause-holds
image_before-requires-clause-holds g c =
    let o = g.G.OffsetImage.offsets c.args.image.now in
    let d = c.args.documents.now in
    before_next o d c.points.points c.in-Some.point c.pop.new.self _
    (g.met.G.OffsetImage.size c.args.image.now) c.in-Some.ensures refl c.points.invariant.can

pub moved_point-requires-clause-first : goal.moved_point-requires-clause-first
moved_point-requires-clause-first g c =
    let o = g.G.OffsetImage.offsets c.args.image.now in
    let d = c.args.documents.now in
    (first_can o d c.points.points c.in-Some.point c.pop.new.self c.in-Some.ensures c.points.invariant.can).first

pub moved_point-requires-clause-there : goal.moved_point-requires-clause-there
moved_point-requires-clause-there g c =
    let o = g.G.OffsetImage.offsets c.args.image.now in
    let d = c.args.documents.now in
    (first_can o d c.points.points c.in-Some.point c.pop.new.self c.in-Some.ensures c.points.invariant.can).there

pub returns-in-Some-image_before-clause-next : goal.returns-in-Some-image_before-clause-next
returns-in-Some-image_before-clause-next g c =
    let o = g.G.OffsetImage.offsets c.args.image.now in
    let d = c.args.documents.now in
    rw c.image_before.ensures.points
    (c.points.invariant.same
    ∙ stays o (g.met.G.OffsetImage.rise c.args.image.now) (g.met.G.OffsetImage.size c.args.image.now) d c.points.points c.in-Some.point c.pop.new.self _
    c.image_before.result c.in-Some-image_before.offset c.moved_point.result
    c.in-Some.ensures refl c.image_before.ensures.image c.in-Some-image_before.is c.moved_point.ensures)

pub returns-in-Some-image_before-clause-points : goal.returns-in-Some-image_before-clause-points
returns-in-Some-image_before-clause-points g c =
    let o = g.G.OffsetImage.offsets c.args.image.now in
    let d = c.args.documents.now in
    rw c.image_before.ensures.points (others_can o d c.points.points c.in-Some.point c.pop.new.self c.in-Some.ensures c.points.invariant.can)

pub points-preserved : goal.points-preserved
points-preserved g c =
    let o = g.G.OffsetImage.offsets c.args.image.now in
    let d = c.args.documents.now in
    rw c.image_before.ensures.points (record {
      same = c.points.invariant.same
          ∙ goes o (g.met.G.OffsetImage.rise c.args.image.now) (g.met.G.OffsetImage.size c.args.image.now) d c.points.points c.in-Some.point c.pop.new.self _
          c.image_before.result c.in-Some.ensures refl c.image_before.ensures.image c.in_default-image_before.is;
      can = others_can o d c.points.points c.in-Some.point c.pop.new.self c.in-Some.ensures c.points.invariant.can;
    })
