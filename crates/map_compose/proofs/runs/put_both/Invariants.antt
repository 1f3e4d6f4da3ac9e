use Rattle.std.proofs.Common.{take, length, ◌≤◌, ◌-◌, None}
use Rattle.ppdb_maps.specs.Says.{offsets_of, lined_runs}
use Rattle.map_compose.specs.{Runs.{met}, Joining.{Joins}}
use Rattle.map_compose.proofs.runs.put_both.Given as goal

abbrev pub invariant-runs : goal.invariant-runs
invariant-runs l = record {
  within : l.index ≤ length (lined_runs (offsets_of l.line.says));
  joins : Joins None l.held l.fn.text l.text (met (take l.index (lined_runs (offsets_of l.line.says))) l.others);
}

abbrev pub decreases-runs : goal.decreases-runs
decreases-runs l = length (lined_runs (offsets_of l.line.says)) - l.index
