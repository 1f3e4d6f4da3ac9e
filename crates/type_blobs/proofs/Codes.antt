-- What the tests of a constant's codes say together.
use Rattle.std.proofs.Common.{◌≡◌, ℕ, ◌<◌, ◌≤◌, Bool, true, false, ◌&&◌, ◌||◌, Some, None, [], ◌∷◌, refl, sym, subst, zero, suc, arith, ◌⊎◌, inl, inr}
use Rattle.std.specs.Prelude.{◌==◌, nat_le}
use Rattle.blob_grammar.specs.Grammar.{number, unsigned, fixed, rest}
use Rattle.type_blobs.specs.Constants.{is_modifier, is_primitive, is_enumerable, is_general, is_string, is_object, is_code, size_of, after_code, after_two, body_of}

either : (a b : Bool) → (a || b) ≡ true → (a ≡ true) ⊎ (b ≡ true)
either true b e = inl refl
either false b e = inr e

pub eq-is : (code n : ℕ) → (code == n) ≡ true → code ≡ n
eq-is code n e = grind arith

-- 1f and 20

pub modifier_is : (code : ℕ) → is_modifier code ≡ true → (code ≡ 0x1f) ⊎ (code ≡ 0x20)
modifier_is code h = elim (either (code == 0x1f) (code == 0x20) h) [ inl a ↦ inl (eq-is code 0x1f a) | inr b ↦ inr (eq-is code 0x20 b) ]

pub general_is : (code : ℕ) → is_general code ≡ true → (code ≡ 0x12) ⊎ (code ≡ 0x11)
general_is code h = elim (either (code == 0x12) (code == 0x11) h) [ inl a ↦ inl (eq-is code 0x12 a) | inr b ↦ inr (eq-is code 0x11 b) ]

pub record OfGeneral (code : ℕ) : Type 0 where
  pub code_known : is_code code ≡ true
  pub after : after_code code ≡ Some unsigned
  pub alone : body_of (number code ∷ []) ≡ None
  pub no_modifier : is_modifier code ≡ false
  pub after_type : after_two code ≡ Some rest

pub of_general : (code : ℕ) → is_general code ≡ true → OfGeneral code
of_general code h = elim (general_is code h) [ inl a ↦ subst OfGeneral (sym a) class | inr b ↦ subst OfGeneral (sym b) value ]
  where
    class : OfGeneral 0x12
    class = record { code_known = refl; after = refl; alone = refl; no_modifier = refl; after_type = refl }

    value : OfGeneral 0x11
    value = record { code_known = refl; after = refl; alone = refl; no_modifier = refl; after_type = refl }

pub record OfPrimitive (code : ℕ) : Type 0 where
  pub code_known : is_code code ≡ true
  pub after : after_code code ≡ Some (fixed (size_of code))
  pub alone : body_of (number code ∷ []) ≡ None
  pub no_modifier : is_modifier code ≡ false
  pub no_string : is_string code ≡ false
  pub no_general : is_general code ≡ false
  pub some_bytes : 1 ≤ size_of code

pub of_primitive : (code : ℕ) → 2 ≤ code → code ≤ 13 → OfPrimitive code
of_primitive zero low high = absurd (omega arith)
of_primitive (suc zero) low high = absurd (omega arith)
of_primitive (suc (suc zero)) low high =
    record { code_known = refl; after = refl; alone = refl; no_modifier = refl; no_string = refl; no_general = refl; some_bytes = omega arith }
of_primitive (suc (suc (suc zero))) low high =
    record { code_known = refl; after = refl; alone = refl; no_modifier = refl; no_string = refl; no_general = refl; some_bytes = omega arith }
of_primitive (suc (suc (suc (suc zero)))) low high =
    record { code_known = refl; after = refl; alone = refl; no_modifier = refl; no_string = refl; no_general = refl; some_bytes = omega arith }
of_primitive (suc (suc (suc (suc (suc zero))))) low high =
    record { code_known = refl; after = refl; alone = refl; no_modifier = refl; no_string = refl; no_general = refl; some_bytes = omega arith }
of_primitive (suc (suc (suc (suc (suc (suc zero)))))) low high =
    record { code_known = refl; after = refl; alone = refl; no_modifier = refl; no_string = refl; no_general = refl; some_bytes = omega arith }
of_primitive (suc (suc (suc (suc (suc (suc (suc zero))))))) low high =
    record { code_known = refl; after = refl; alone = refl; no_modifier = refl; no_string = refl; no_general = refl; some_bytes = omega arith }
of_primitive (suc (suc (suc (suc (suc (suc (suc (suc zero)))))))) low high =
    record { code_known = refl; after = refl; alone = refl; no_modifier = refl; no_string = refl; no_general = refl; some_bytes = omega arith }
of_primitive (suc (suc (suc (suc (suc (suc (suc (suc (suc zero))))))))) low high =
    record { code_known = refl; after = refl; alone = refl; no_modifier = refl; no_string = refl; no_general = refl; some_bytes = omega arith }
of_primitive (suc (suc (suc (suc (suc (suc (suc (suc (suc (suc zero)))))))))) low high =
    record { code_known = refl; after = refl; alone = refl; no_modifier = refl; no_string = refl; no_general = refl; some_bytes = omega arith }
of_primitive (suc (suc (suc (suc (suc (suc (suc (suc (suc (suc (suc zero))))))))))) low high =
    record { code_known = refl; after = refl; alone = refl; no_modifier = refl; no_string = refl; no_general = refl; some_bytes = omega arith }
of_primitive (suc (suc (suc (suc (suc (suc (suc (suc (suc (suc (suc (suc zero)))))))))))) low high =
    record { code_known = refl; after = refl; alone = refl; no_modifier = refl; no_string = refl; no_general = refl; some_bytes = omega arith }
of_primitive (suc (suc (suc (suc (suc (suc (suc (suc (suc (suc (suc (suc (suc zero))))))))))))) low high =
    record { code_known = refl; after = refl; alone = refl; no_modifier = refl; no_string = refl; no_general = refl; some_bytes = omega arith }
of_primitive (suc (suc (suc (suc (suc (suc (suc (suc (suc (suc (suc (suc (suc (suc n)))))))))))))) low high = absurd (omega arith)

pub general_between : (code : ℕ) → 17 ≤ code → code ≤ 18 → is_general code ≡ true
general_between code low high = grind arith

-- ---- other codes

none : (code : ℕ) → is_modifier code ≡ false → is_primitive code ≡ false → is_general code ≡ false → is_string code ≡ false → is_object code ≡ false
    → is_code code ≡ false
none code a b c d e = rw (a, b, c, d, e) refl

not_primitive-below : (code : ℕ) → code < 2 → is_primitive code ≡ false
not_primitive-below code h = grind arith

not_primitive-above : (code : ℕ) → 14 ≤ code → is_primitive code ≡ false
not_primitive-above code h = grind arith

not_general-below : (code : ℕ) → code < 17 → is_general code ≡ false
not_general-below code h = grind arith

not_general-above : (code : ℕ) → 19 ≤ code → is_general code ≡ false
not_general-above code h = grind arith

not_string : (code : ℕ) → (code ≡ 14 → ⊥) → is_string code ≡ false
not_string code h = grind arith

not_object : (code : ℕ) → (code ≡ 28 → ⊥) → is_object code ≡ false
not_object code h = grind arith

pub no_code-below : (code : ℕ) → is_modifier code ≡ false → code < 2 → is_code code ≡ false
no_code-below code m h =
    none code m (not_primitive-below code h) (not_general-below code (omega arith)) (not_string code (λ e. omega arith)) (not_object code (λ e. omega arith))

pub no_code-between : (code : ℕ) → is_modifier code ≡ false → 14 < code → code < 17 → is_code code ≡ false
no_code-between code m low high =
    none code m (not_primitive-above code (omega arith)) (not_general-below code high) (not_string code (λ e. omega arith)) (not_object code (λ e. omega arith))

pub no_code-above : (code : ℕ) → is_modifier code ≡ false → 19 ≤ code → (code ≡ 28 → ⊥) → is_code code ≡ false
no_code-above code m low other =
    none code m (not_primitive-above code (omega arith)) (not_general-above code low) (not_string code (λ e. omega arith)) (not_object code other)

-- ---- ranges

both : (a b : Bool) → (a && b) ≡ true → (a ≡ true) × (b ≡ true)
both true b e = (refl, e)
both false b e = absurd cc

le-is : (a b : ℕ) → nat_le a b ≡ true → a ≤ b
le-is a b e = grind arith

pub primitive_range : (code : ℕ) → is_primitive code ≡ true → (2 ≤ code) × (code ≤ 13)
primitive_range code h = let p = both (nat_le 2 code) (nat_le code 13) h in (le-is 2 code p.0, le-is code 13 p.1)

pub enumerable_range : (code : ℕ) → is_enumerable code ≡ true → (2 ≤ code) × (code ≤ 13)
enumerable_range code h = let p = both (nat_le 2 code) (nat_le code 11) h in let high : code ≤ 11 = le-is code 11 p.1 in (le-is 2 code p.0, omega arith)
