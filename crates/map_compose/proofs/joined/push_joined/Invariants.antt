use Rattle.std.proofs.Common.{take, length, ◌≤◌, ◌-◌}
use Rattle.ppdb_maps.specs.Says.{offsets_of, lined_runs}
use Rattle.map_compose.proofs.Gathering.{Gathers}
use Rattle.map_compose.proofs.joined.push_joined.Given as goal

abbrev pub invariant-runs : goal.invariant-runs
invariant-runs l = record {
  within : l.index ≤ length (lined_runs (offsets_of l.line.says));
  gathers : Gathers l.fn.runs.items l.runs.items l.held (take l.index (lined_runs (offsets_of l.line.says)));
}

abbrev pub decreases-runs : goal.decreases-runs
decreases-runs l = length (lined_runs (offsets_of l.line.says)) - l.index
