-- The digits of bytes around one of them.
use Rattle.std.proofs.{Common.{ℕ, ◌≡◌, ◌==◌, true, false, List, [], ◌∷◌, ◌++◌, length, take, drop, refl, sym, ◌∙◌, ap, arith}, lemmas.List.{take-append-drop}}
use Rattle.hex.specs.Hex.{encode_lower, encode_with}
use Rattle.ppdb_show_lines.specs.Values.{hex_text}

pub digits_append : (xs ys : List ℕ) → encode_lower (xs ++ ys) ≡ encode_lower xs ++ encode_lower ys
unfolding encode_with
digits_append [] ys = refl
digits_append (x ∷ xs) ys = ap (λ (s : List ℕ). encode_lower (x ∷ []) ++ s) (digits_append xs ys)

-- some bytes
pub hex_some : (bytes : List ℕ) → (length bytes == 0) ≡ false → hex_text bytes ≡ encode_lower bytes
unfolding hex_text
hex_some [] h = absurd (grind (arith, h))
hex_some (b ∷ bs) h = refl

-- no bytes
pub hex_none : (bytes : List ℕ) → (length bytes == 0) ≡ true → hex_text bytes ≡ 45 ∷ []
unfolding hex_text
hex_none [] h = refl
hex_none (b ∷ bs) h = absurd (grind (arith, h))

pub digits_nil : (bytes : List ℕ) → (length bytes == 0) ≡ true → encode_lower bytes ≡ []
unfolding encode_with
digits_nil [] h = refl
digits_nil (b ∷ bs) h = absurd (grind (arith, h))

-- the digits of the first few bytes, and of the others
pub digits_parts : (bytes prefix back : List ℕ) (n : ℕ) → prefix ≡ take n bytes → back ≡ drop n bytes → encode_lower bytes ≡ encode_lower prefix
    ++ encode_lower back
digits_parts bytes prefix back n first rest =
    ap encode_lower (sym (take-append-drop n bytes)) ∙ digits_append (take n bytes) (drop n bytes) ∙ rw (first, rest) refl
