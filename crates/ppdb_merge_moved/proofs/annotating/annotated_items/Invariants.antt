use Rattle.std.proofs.Common.{◌≡◌, ◌+◌, ◌≤◌, ℕ, [], length, get_or}
use Rattle.ppdb_merge_moved.specs.OnRows.{annotated_by, in_lists}
use Rattle.ppdb_merge_moved.proofs.annotating.annotated_items.Given as goal

abbrev pub invariant-loop-item : goal.invariant-loop-item
invariant-loop-item g l = record {
  at : l.at ≡ l.fn.first + length l.yielded;
  annotated : l.annotated ≡ annotated_by (in_lists l.fn.lists) (l.fn.first + 1) l.yielded;
  others : (k : ℕ) → l.at ≤ k → get_or l.lists k [] ≡ get_or l.fn.lists k [];
}
