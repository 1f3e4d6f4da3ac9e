use Rattle.std.proofs.Common.{◌≡◌, ℕ, [], length, get_or}
use Rattle.ppdb_merge_moved.proofs.annotating.empty_lists.Given as goal

abbrev pub invariant-loop : goal.invariant-loop
invariant-loop l = record {
  rows : length l.lists.items ≡ l.counter;
  none : (k : ℕ) → get_or l.lists.items k [] ≡ [];
}
