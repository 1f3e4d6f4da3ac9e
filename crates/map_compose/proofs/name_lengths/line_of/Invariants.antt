use Rattle.std.proofs.Common.{◌≤◌, ◌-◌, take, drop, length}
use Rattle.map_compose.{specs.Composed.{named}, proofs.NameLengths.{Below, Beyond}}
use Rattle.map_compose.proofs.name_lengths.line_of.Given as goal

abbrev pub invariant-halves : goal.invariant-halves
invariant-halves l = record {
  order : l.low ≤ l.high;
  within : l.high ≤ length l.map.documents;
  below : Below l.name (take l.low (named l.map));
  beyond : Beyond l.name (drop l.high (named l.map));
}

abbrev pub decreases-halves : goal.decreases-halves
decreases-halves l = l.high - l.low
