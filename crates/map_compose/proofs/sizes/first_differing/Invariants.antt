use Rattle.std.proofs.Common.{length, ◌≤◌, ◌-◌}
use Rattle.map_compose.proofs.Differing.{NoneOf}
use Rattle.map_compose.proofs.sizes.first_differing.Given as goal

abbrev pub invariant-methods : goal.invariant-methods
invariant-methods l = record {
  within : l.index ≤ length l.first.methods;
  none : NoneOf l.first l.second l.index;
}

abbrev pub decreases-methods : goal.decreases-methods
decreases-methods l = length l.first.methods - l.index
