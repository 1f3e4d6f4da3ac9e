use Rattle.std.{proofs.Common.{◌≡◌}, specs.List.{filter_map}}
use Rattle.ppdb_merge_moved.proofs.moves.moved_all.Given as goal

abbrev pub invariant-loop-item : goal.invariant-loop-item
invariant-loop-item g l = l.moved ≡ filter_map (g.T.Stays.stays l.fn.by) l.yielded
