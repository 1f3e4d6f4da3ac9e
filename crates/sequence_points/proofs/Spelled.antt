-- Numbers in their shortest form are fields.
use Rattle.std.{proofs.Common.{◌≡◌, ℕ, ◌<◌, List, ℤ, pos, refl}, specs.Prelude.{neg_ℤ, ◌≤ℤ◌, ◌<ℤ◌}}
use Rattle.cli_ints.{specs.Shortest.{short_unsigned, short_signed}, proofs.Shortest.{short_unsigned-shortest, short_signed-shortest}}
use Rattle.blob_grammar.specs.Grammar.{Value, number, integer, Form, unsigned, signed, Spells}
use Rattle.sequence_points.specs.Records.{int_of}

-- The bytes are a field of this form, which says this number, whatever stands after them.
pub record Spelled (form : Form) (z : ℤ) (bytes : List ℕ) : Type 0 where
  pub value : Value
  pub is : int_of value ≡ z
  pub spells : (left : List ℕ) → Spells form bytes value left

pub unsigned_spells : (n : ℕ) → n < 0x20000000 → (left : List ℕ) → Spells unsigned (short_unsigned n) (number n) left
unsigned_spells n h left = (short_unsigned-shortest n h).spelled

pub spelled_signed : (z : ℤ) → neg_ℤ (pos 0x10000000) ≤ℤ z → z <ℤ pos 0x10000000 → Spelled signed z (short_signed z)
spelled_signed z low high = record { value = integer z; is = refl; spells = λ left. (short_signed-shortest z low high).spelled }
