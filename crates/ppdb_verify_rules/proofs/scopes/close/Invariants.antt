use Rattle.std.proofs.Common.{◌≡◌, ◌<◌, ◌≤◌, ℕ, take, get_or, vec_len, length}
use Rattle.ppdb_verify_rules.proofs.scopes.close.Given as goal

abbrev pub invariant-loop-end : goal.invariant-loop-end
invariant-loop-end l = record {
  shorter : vec_len l.ends ≤ length l.initial.ends.items;
  kept : l.ends.items ≡ take (vec_len l.ends) l.initial.ends.items;
  closed : (k : ℕ) → vec_len l.ends ≤ k → k < length l.initial.ends.items → get_or l.initial.ends.items k 0 ≤ l.offset;
}

abbrev pub decreases-loop-end : goal.decreases-loop-end
decreases-loop-end l = vec_len l.ends
