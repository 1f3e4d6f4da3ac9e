use Rattle.std.proofs.Common.{◌≡◌, ◌++◌}
use Rattle.ppdb_merge_joined.proofs.placing.move_all.Given as goal

abbrev pub invariant-loop-item : goal.invariant-loop-item
invariant-loop-item g l = l.into ≡ l.fn.into ++ l.yielded
