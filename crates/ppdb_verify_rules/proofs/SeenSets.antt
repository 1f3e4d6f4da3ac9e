-- Nothing is seen before the first row.
use Rattle.std.{proofs.Common.{◌≡◌, ℕ, ◌/◌, ◌%◌, List, [], slice_index, arith, inl, inr}, specs.Int.{bit_at}, proofs.lemmas.Nat.Bits.{bit_at-zero}}
use Rattle.ppdb_tables.specs.declared.rows.MachineRow.{MachineRow}
use Rattle.ppdb_verify_rules.{specs.Seen.{AreKickoffs, Has, HasText, HasNoTexts}, specs.declared.seen.Texts.{Texts}, proofs.CellFaults.{none_earlier}}

-- no words have no bits
pub has_none : (words : List ℕ) (n : ℕ) → words ≡ [] → Has words n → ⊥
has_none words n empty has =
    let none : bit_at (slice_index words (n / 32)) (n % 32) ≡ 0 = rw empty (bit_at-zero (n % 32)) in
    omega (arith, none, has)

pub has_no_text : (seen : Texts) (t : List ℕ) → HasNoTexts seen → HasText seen t → ⊥
has_no_text seen t none (inl few) = let empty = none.0 in let h = rw empty at few in cc
has_no_text seen t none (inr more) = let empty = none.1 in let h = rw empty at more in cc

pub kickoffs_at_first : (machines : List MachineRow) (words : List ℕ) → words ≡ [] → AreKickoffs machines 1 words
kickoffs_at_first machines words empty = record {
  sound = λ n has. absurd (has_none words n empty has);
  complete = λ n h. absurd (none_earlier machines h);
}
