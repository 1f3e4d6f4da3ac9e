use Rattle.std.proofs.Common.{◌≡◌, [], take, drop}
use Rattle.sequence_points.specs.Written.{last_start, large_steps}
use Rattle.sequence_points.proofs.step.first_large_step.Given as goal

abbrev pub invariant-loop-i : goal.invariant-loop-i
invariant-loop-i l = record {
  start : l.start ≡ last_start (take l.i l.points);
  left : large_steps [] l.points ≡ large_steps (take l.i l.points) (drop l.i l.points);
}
