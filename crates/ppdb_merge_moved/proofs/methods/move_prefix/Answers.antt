use Rattle.std.proofs.Common.{ℕ, ◌<◌, length, get_or, ap, arith}
use Rattle.sequence_points.specs.declared.point.Point.{Point}
use Rattle.ppdb_merge_moved.proofs.Prefix.{prefix_stays, prefix_goes, left_after_set, left_next}
use Rattle.ppdb_merge_moved.proofs.methods.move_prefix.Goals as goal
use Rattle.ppdb_merge_moved.proofs.methods.move_prefix.Goals.{then-kept_between, else-kept_between}

pub loop-place-preserved : goal.loop-place-preserved
loop-place-preserved g c =
    let less : c.loop-place.place < length c.loop-place.points = omega arith in
    elim c.if-kept_between.branch [
      | then-kept_between w ↦ rw (w.points-is, w.stay-is) (record {
        within = omega arith;
        done = prefix_stays (g.G.OffsetImage.offsets c.args.image.now)
            (g.met.G.OffsetImage.rise c.args.image.now) c.requires c.args.points.now c.loop-place.points c.loop-place.stay c.loop-place.place _
            c.offset_at.result c.kept_between.result _
            less c.loop-place.invariant.within c.loop-place.invariant.left c.loop-place.invariant.done c.offset_at.ensures c.kept_between.ensures
            w.if-kept_between.true
            (ap (λ (x : ℕ). let p : Point = record (get_or c.loop-place.points c.loop-place.place _) { offset = x } in p) w.moved_offset.ensures);
        left = left_after_set c.args.points.now c.loop-place.points c.loop-place.stay c.loop-place.place _ c.loop-place.invariant.within
            c.loop-place.invariant.left;
      })
      | else-kept_between w ↦ rw (w.points-is, w.stay-is) (record {
        within = omega arith;
        done = prefix_goes (g.G.OffsetImage.offsets c.args.image.now)
            (g.met.G.OffsetImage.rise c.args.image.now) c.requires c.args.points.now c.loop-place.points c.loop-place.stay c.loop-place.place _
            c.offset_at.result c.kept_between.result
            less c.loop-place.invariant.left c.loop-place.invariant.done c.offset_at.ensures c.kept_between.ensures w.if-kept_between.false;
        left = left_next c.args.points.now c.loop-place.points c.loop-place.place c.loop-place.invariant.left;
      })
    ]
