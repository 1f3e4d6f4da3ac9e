use Rattle.std.proofs.Common.{◌≡◌, ℕ, ◌<◌, ◌≤◌, get_or}
use Rattle.ppdb_values_check.proofs.rows.sound_rows.Given as goal

abbrev pub invariant-loop-i : goal.invariant-loop-i
invariant-loop-i l = record {
  most : (k : ℕ) → k < l.i → get_or l.rows k 0 ≤ 16777215;
  others : (k : ℕ) → k < l.i → 0x2d ≤ k → get_or l.rows k 0 ≡ 0;
}
