-- The shortest spelling as a function: it spells its number, and no spelling has fewer bytes.
use Rattle.std.proofs.Common.{◌≡◌, ℕ, ◌-◌, ◌*◌, ◌^◌, ◌<◌, ◌≤◌, true, false, ltb, List, [], ◌∷◌, length, refl, arith, inl, inr, ℤ, pos, negsuc}
use Rattle.std.{specs.Prelude.{◌≤ℤ◌, ◌<ℤ◌, neg_ℤ}, proofs.lemmas.Bool.{cases_lt, cases_Bool}, proofs.lemmas.Int.{ints}, proofs.lemmas.Grind.{common_steps}}
use Rattle.cli_ints.specs.{Compressed.{SpellsUnsigned, SpellsSigned, IsShortest, unrotated, bits_of}, Shortest.{in_two_bytes, in_four_bytes, short_unsigned}}
use Rattle.cli_ints.specs.Shortest.{fits_half, rotated, short_signed}

lt-true : (a b : ℕ) → a < b → ltb a b ≡ true
lt-true a b h = grind arith

ge-false : (a b : ℕ) → b ≤ a → ltb a b ≡ false
ge-false a b h = grind arith

two-spelled : (n : ℕ) → n < 2 ^ 14 → SpellsUnsigned (in_two_bytes n) n
two-spelled n less = (omega arith, omega arith, omega arith, omega arith)

four-spelled : (n : ℕ) → n < 2 ^ 29 → SpellsUnsigned (in_four_bytes n) n
four-spelled n less = (omega arith, omega arith, omega arith, omega arith, omega arith, omega arith)

-- The least value that needs so many bytes.
unsigned-needs_two : (other : List ℕ) (n : ℕ) → 2 ^ 7 ≤ n → SpellsUnsigned other n → 2 ≤ length other
unsigned-needs_two [] n more h = absurd h
unsigned-needs_two (b ∷ []) n more h = absurd (omega (arith, h.0, h.1))
unsigned-needs_two (b ∷ c ∷ bs) n more h = omega arith

unsigned-needs_four : (other : List ℕ) (n : ℕ) → 2 ^ 14 ≤ n → SpellsUnsigned other n → 4 ≤ length other
unsigned-needs_four [] n more h = absurd h
unsigned-needs_four (b ∷ []) n more h = absurd (omega (arith, h.0, h.1))
unsigned-needs_four (b ∷ c ∷ []) n more h = absurd (omega (arith, h.1, h.2, h.3))
unsigned-needs_four (b ∷ c ∷ d ∷ []) n more h = absurd h
unsigned-needs_four (b ∷ c ∷ d ∷ e ∷ bs) n more h = omega arith

-- A spelling has at least one byte.
pub unsigned-not_empty : (other : List ℕ) (n : ℕ) → SpellsUnsigned other n → 1 ≤ length other
unsigned-not_empty [] n h = absurd h
unsigned-not_empty (b ∷ bs) n h = omega arith

-- Only numbers of 29 bits have a spelling.
pub unsigned-below : (other : List ℕ) (n : ℕ) → SpellsUnsigned other n → n < 2 ^ 29
unsigned-below [] n h = absurd h
unsigned-below (b ∷ []) n h = omega (arith, h.0, h.1)
unsigned-below (b ∷ c ∷ []) n h = omega (arith, h.0, h.1, h.2, h.3)
unsigned-below (b ∷ c ∷ d ∷ []) n h = absurd h
unsigned-below (b ∷ c ∷ d ∷ e ∷ []) n h = omega (arith, h.0, h.1, h.2, h.3, h.4, h.5)
unsigned-below (b ∷ c ∷ d ∷ e ∷ f ∷ fs) n h = absurd h

pub short_unsigned-shortest : (n : ℕ) → n < 2 ^ 29 → IsShortest SpellsUnsigned (short_unsigned n) n
unfolding short_unsigned
short_unsigned-shortest n less =
    elim (cases_lt n (2 ^ 7)) [
      | inl one ↦ rw (lt-true n (2 ^ 7) one) (record { spelled = (one, refl); least = λ other h. unsigned-not_empty other n h })
      | inr more ↦ rw (ge-false n (2 ^ 7) more)
          (elim (cases_lt n (2 ^ 14)) [
            | inl two ↦ rw (lt-true n (2 ^ 14) two) (record { spelled = two-spelled n two; least = λ other h. unsigned-needs_two other n more h })
            | inr four ↦ rw (ge-false n (2 ^ 14) four) (record { spelled = four-spelled n less; least = λ other h. unsigned-needs_four other n four h })
          ])
    ]

-- ---- signed

rotated-below : (half : ℕ) (z : ℤ) → fits_half half z ≡ true → rotated half z < 2 * half
rotated-below half (pos n) h = grind arith
rotated-below half (negsuc n) h = grind arith

rotated-back : (half : ℕ) (z : ℤ) → fits_half half z ≡ true → z ≡ unrotated half (rotated half z)
rotated-back half (pos n) h = grind (arith, ints)
rotated-back half (negsuc n) h = grind (arith, ints)

unrotated-fits : (half u : ℕ) → u < 2 * half → fits_half half (unrotated half u) ≡ true
unrotated-fits half u less = grind (arith, ints)

-- The numbers of two's complement in a range.
in_range-fits : (half : ℕ) (z : ℤ) → neg_ℤ (pos half) ≤ℤ z → z <ℤ pos half → fits_half half z ≡ true
in_range-fits half (pos n) low high = grind (arith, ints)
in_range-fits half (negsuc n) low high = grind (arith, ints)

signed-of : (bytes : List ℕ) (len : ℕ) (z : ℤ) (half : ℕ) → length bytes ≡ len → SpellsUnsigned bytes (rotated half z) → z ≡ unrotated half (rotated half z)
    → half ≡ 2 ^ (bits_of len - 1) → SpellsSigned bytes z
signed-of bytes len z half l h back e = (rotated half z, h, rw l (rw (← e) back))

-- A spelling with fewer bytes holds fewer bits.
signed-needs_two : (other : List ℕ) (z : ℤ) → fits_half (2 ^ 6) z ≡ false → SpellsSigned other z → 2 ≤ length other
signed-needs_two [] z not h = absurd h.1
signed-needs_two (b ∷ []) z not h = let fits : fits_half (2 ^ 6) z ≡ true = rw h.2 (unrotated-fits (2 ^ 6) h.0 (omega (arith, h.1.0, h.1.1))) in cc
signed-needs_two (b ∷ c ∷ bs) z not h = omega arith

signed-needs_four : (other : List ℕ) (z : ℤ) → fits_half (2 ^ 6) z ≡ false → fits_half (2 ^ 13) z ≡ false → SpellsSigned other z → 4 ≤ length other
signed-needs_four [] z few not h = absurd h.1
signed-needs_four (b ∷ []) z few not h = let fits : fits_half (2 ^ 6) z ≡ true = rw h.2 (unrotated-fits (2 ^ 6) h.0 (omega (arith, h.1.0, h.1.1))) in cc
signed-needs_four (b ∷ c ∷ []) z few not h =
    let fits : fits_half (2 ^ 13) z ≡ true = rw h.2 (unrotated-fits (2 ^ 13) h.0 (omega (arith, h.1.1, h.1.2, h.1.3))) in cc
signed-needs_four (b ∷ c ∷ d ∷ []) z few not h = absurd h.1
signed-needs_four (b ∷ c ∷ d ∷ e ∷ bs) z few not h = omega arith

pub short_signed-shortest : (z : ℤ) → neg_ℤ (pos (2 ^ 28)) ≤ℤ z → z <ℤ pos (2 ^ 28) → IsShortest SpellsSigned (short_signed z) z
unfolding short_signed
short_signed-shortest z low high =
    elim (cases_Bool (fits_half (2 ^ 6) z)) [
      | inl one ↦ rw one (record {
        spelled = signed-of (rotated (2 ^ 6) z ∷ []) 1 z (2 ^ 6) refl (rotated-below (2 ^ 6) z one, refl) (rotated-back (2 ^ 6) z one) refl;
        least = λ other h. unsigned-not_empty other h.0 h.1;
      })
      | inr more ↦ rw more
          (elim (cases_Bool (fits_half (2 ^ 13) z)) [
            | inl two ↦ rw two (record {
              spelled = signed-of (in_two_bytes (rotated (2 ^ 13) z)) 2 z (2 ^ 13) refl (two-spelled (rotated (2 ^ 13) z) (rotated-below (2 ^ 13) z two))
                  (rotated-back (2 ^ 13) z two) refl;
              least = λ other h. signed-needs_two other z more h;
            })
            | inr four ↦ rw four
                (let fits : fits_half (2 ^ 28) z ≡ true = in_range-fits (2 ^ 28) z low high in record {
                  spelled = signed-of (in_four_bytes (rotated (2 ^ 28) z)) 4 z (2 ^ 28) refl (four-spelled (rotated (2 ^ 28) z) (rotated-below (2 ^ 28) z fits))
                      (rotated-back (2 ^ 28) z fits) refl;
                  least = λ other h. signed-needs_four other z more four h;
                })
          ])
    ]

-- ---- no other spelling is as short

one_length : {V : Type 0} (Spells : List ℕ → V → Type 0) (a b : List ℕ) (v : V) → IsShortest Spells a v → IsShortest Spells b v → length a ≡ length b
one_length Spells a b v p q = let l : length a ≤ length b = p.least b q.spelled in let m : length b ≤ length a = q.least a p.spelled in omega arith

unsigned-one : (a b : List ℕ) (v : ℕ) → length a ≡ length b → SpellsUnsigned a v → SpellsUnsigned b v → a ≡ b
unsigned-one a b v l p q = grind arith

pub is-short_unsigned : (bytes : List ℕ) (n : ℕ) → n < 2 ^ 29 → IsShortest SpellsUnsigned bytes n → bytes ≡ short_unsigned n
is-short_unsigned bytes n less h = let s = short_unsigned-shortest n less in
    unsigned-one bytes (short_unsigned n) n (one_length SpellsUnsigned bytes (short_unsigned n) n h s) h.spelled s.spelled

signed-one : (a b : List ℕ) (v : ℤ) → IsShortest SpellsSigned a v → IsShortest SpellsSigned b v → a ≡ b
signed-one a b v p q = grind (arith, common_steps)

pub is-short_signed : (bytes : List ℕ) (z : ℤ) → neg_ℤ (pos (2 ^ 28)) ≤ℤ z → z <ℤ pos (2 ^ 28) → IsShortest SpellsSigned bytes z → bytes ≡ short_signed z
is-short_signed bytes z low high h = signed-one bytes (short_signed z) z h (short_signed-shortest z low high)
