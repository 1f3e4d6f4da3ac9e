use Rattle.std.proofs.Common.{◌≡◌, ◌≤◌, ◌*◌, take}
use Rattle.map_compose.specs.Lengths.{sums_from, new_digits}
use Rattle.map_compose.proofs.joined.push_sums.Given as goal

abbrev pub invariant-runs : goal.invariant-runs
invariant-runs l = record {
  sums : l.sums.items ≡ sums_from 0 (take l.run-index l.runs);
  sum : l.sum ≡ new_digits (take l.run-index l.runs);
  few : l.sum ≤ 20 * l.run-index;
}
