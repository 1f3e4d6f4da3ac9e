use Rattle.std.{proofs.Common.{◌≡◌, ◌≤◌, length, drop}, specs.Cmp.Lexicographic.{slice_cmp}, specs.Ordering.{nat_cmp}}
use Rattle.source_link.specs.Address.{lower}
use Rattle.source_link.proofs.compare.compare_lower.Given as goal

abbrev pub invariant-loop-at : goal.invariant-loop-at
invariant-loop-at l = record {
  within : l.at ≤ length l.b;
  same : slice_cmp nat_cmp (lower (drop l.at l.a)) (lower (drop l.at l.b)) ≡ slice_cmp nat_cmp (lower l.a) (lower l.b);
}
