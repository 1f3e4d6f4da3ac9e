use Rattle.std.proofs.{Common.{◌<◌, length, sym, ap, ◌∙◌, arith}, lemmas.List.Filters.{FiltersInPlace-more_no, FiltersInPlace-more_swap}}
use Rattle.ppdb_merge_moved.proofs.moves.live_prefix.Goals as goal
use Rattle.ppdb_merge_moved.proofs.moves.live_prefix.Goals.{then-lives_by, else-lives_by}

pub loop-place-preserved : goal.loop-place-preserved
loop-place-preserved g c =
    let long = c.loop-place.invariant.long in
    let less : c.loop-place.place < length c.loop-place.items = omega (arith, long) in
    let is = ap (g.T.Lives.lives c.args.by.now) c.index-items-place.is ∙ sym c.lives_by.ensures in
    elim c.if-lives_by.branch [
      | then-lives_by w ↦ rw (w.items-is, w.stay-is) (FiltersInPlace-more_swap c.loop-place.invariant less (is ∙ w.if-lives_by.true)
          c.index-items-place.is w.swap.ensures.by_index)
      | else-lives_by w ↦ rw (w.items-is, w.stay-is) (FiltersInPlace-more_no c.loop-place.invariant less (is ∙ w.if-lives_by.false)
          c.index-items-place.is)
    ]
