use Rattle.std.{proofs.Common.{◌≡◌, take, length, ◌≤◌, ◌-◌}, specs.List.{flat_map}}
use Rattle.map_compose.{specs.Joining.{places}, proofs.Places.{long}}
use Rattle.map_compose.proofs.joined.JoinedRuns.of.Given as goal

abbrev pub invariant-lines : goal.invariant-lines
invariant-lines l = record {
  within : l.index ≤ length l.map.methods;
  runs : l.runs.items ≡ flat_map long (take l.index l.map.methods);
  lines : l.lines.items ≡ places 0 (take l.index l.map.methods);
}

abbrev pub decreases-lines : goal.decreases-lines
decreases-lines l = length l.map.methods - l.index
