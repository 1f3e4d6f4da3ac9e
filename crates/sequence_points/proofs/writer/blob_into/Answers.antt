use Rattle.std.proofs.Common.{◌++◌, ◌∙◌}
use Rattle.sequence_points.{specs.Written.{points_blob}, proofs.Before.{start_next}, proofs.Follows.{follow_head, follow_tail, last_next, left_next, begins_next}}
use Rattle.sequence_points.proofs.writer.blob_into.Goals as goal

pub point_into-requires : goal.point_into-requires
point_into-requires c =
    follow_head c.args.points.now c.loop-point.point-index _ c.loop-point.last c.loop-point.start c.loop-point-test.true c.loop-point.invariant.last
    c.loop-point.invariant.start c.loop-point.invariant.follow

pub loop-point-preserved : goal.loop-point-preserved
loop-point-preserved c = record {
  last = last_next c.args.points.now c.loop-point.point-index _ c.loop-point-test.true;
  start = c.start_after-start.ensures ∙ start_next c.args.points.now c.loop-point.point-index _ c.loop-point.start c.loop-point-test.true
      c.loop-point.invariant.start;
  follow = follow_tail c.args.points.now c.loop-point.point-index c.loop-point-test.true c.loop-point.invariant.follow;
  left = left_next c.args.points.now c.loop-point.point-index _ c.loop-point.last c.loop-point.start c.loop-point.into c.point_into.new.into (c.args.into.now
      ++ points_blob c.args.signature c.args.points.now) c.loop-point-test.true c.loop-point.invariant.last c.loop-point.invariant.start
      c.in_ok-point_into.ensures.ok c.loop-point.invariant.left;
  begins = begins_next c.args.into.now c.loop-point.into c.point_into.new.into _ c.loop-point.invariant.begins c.in_ok-point_into.ensures.ok;
}
