use Rattle.std.proofs.lemmas.List.Filters.{FiltersInPlace}
use Rattle.ppdb_merge_moved.proofs.moves.live_prefix.Given as goal

abbrev pub invariant-loop-place : goal.invariant-loop-place
invariant-loop-place g l = FiltersInPlace (g.T.Lives.lives l.by) l.initial.items l.items l.stay l.place
