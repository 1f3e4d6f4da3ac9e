-- Words of hexadecimal digits after a prefix.
use Rattle.std.proofs.Common.{ℕ, ◌≡◌, ◌-◌, ◌<◌, ◌≤◌, ◌^◌, ◌++◌, inl, inr, List, [], ◌∷◌, length, get_or, take, drop, sym, ap, ◌∙◌, subst, arith, Option, Some, None}
use Rattle.std.{proofs.Common.{MatchOption, IfSome, IfNone}, specs.Prelude.{codes}, specs.Str.Parse.{IsNumeral, digits_value}, proofs.Math.Seq.{take-length}}
use Rattle.ppdb_base.specs.declared.limits.TheConstants.{MAX_ROWS, MAX_OFFSET}
use Rattle.ppdb_queries_list.{specs.Lists.{IsMethod, IsOffset}, proofs.Lists.{no_decimal, same_rest, same_rest_of}, proofs.Words.{six_digits}}

-- the bytes from n on, as a slice gives them
abbrev pub from : ℕ → List ℕ → List ℕ
from n word = take (length word - n) (drop n word)

pub token_word : (word : List ℕ) → 4 ≤ length word → get_or word 0 0 ≡ 48 → get_or word 1 0 ≡ 120 → get_or word 2 0 ≡ 48 → get_or word 3 0 ≡ 54
    → word ≡ codes "0x06" ++ from 4 word
token_word [] long a b c d = absurd (omega (arith, long))
token_word (x ∷ []) long a b c d = absurd (omega (arith, long))
token_word (x ∷ y ∷ []) long a b c d = absurd (omega (arith, long))
token_word (x ∷ y ∷ z ∷ []) long a b c d = absurd (omega (arith, long))
token_word (x ∷ y ∷ z ∷ w ∷ rest) long a b c d =
    let e : length (x ∷ y ∷ z ∷ w ∷ rest) - 4 ≡ length rest = omega arith in
    let same : take (length (x ∷ y ∷ z ∷ w ∷ rest) - 4) rest ≡ rest = ap (λ n. take n rest) e ∙ take-length rest in
    ap (λ n. n ∷ y ∷ z ∷ w ∷ rest) a ∙ ap (λ n. 48 ∷ n ∷ z ∷ w ∷ rest) b ∙ ap (λ n. 48 ∷ 120 ∷ n ∷ w ∷ rest) c ∙ ap (λ n. 48 ∷ 120 ∷ 48 ∷ n ∷ rest) d
    ∙ ap (λ r. codes "0x06" ++ r) (sym same)

pub hexadecimal_word : (word : List ℕ) → 2 ≤ length word → get_or word 0 0 ≡ 48 → get_or word 1 0 ≡ 120 → word ≡ codes "0x" ++ from 2 word
hexadecimal_word [] long a b = absurd (omega (arith, long))
hexadecimal_word (x ∷ []) long a b = absurd (omega (arith, long))
hexadecimal_word (x ∷ y ∷ rest) long a b =
    let e : length (x ∷ y ∷ rest) - 2 ≡ length rest = omega arith in
    let same : take (length (x ∷ y ∷ rest) - 2) rest ≡ rest = ap (λ n. take n rest) e ∙ take-length rest in
    ap (λ n. n ∷ y ∷ rest) a ∙ ap (λ n. 48 ∷ n ∷ rest) b ∙ ap (λ r. codes "0x" ++ r) (sym same)

-- what is read of six digits
pub token_read : (r : Option ℕ) (word digits : List ℕ) → word ≡ codes "0x06" ++ digits → length digits ≡ 6
    → IfSome r (λ n. IsNumeral 16 digits × (n ≡ digits_value 16 digits)) → IfNone r (IsNumeral 16 digits → digits_value 16 digits < 2 ^ 32 → ⊥)
    → MatchOption r ((n : ℕ) → IsMethod word n → ⊥) (IsMethod word)
token_read (Some n) word digits is six some none = inr
    (record { digits = digits; spelled = is; from = omega (arith, six); to = omega (arith, six); numeral = some.0; is = some.1 })
token_read None word digits is six some none = no_row
  where
    no_row : (n : ℕ) → IsMethod word n → ⊥
    no_row n (inl a) = let most : n ≤ MAX_ROWS = a.to in no_decimal word (48 ∷ 54 ∷ digits) n (omega (arith, most)) a.spelled is
    no_row n (inr a) =
        let same = same_rest a.digits digits (sym a.spelled ∙ is) in
        let numeral = subst (IsNumeral 16) same a.numeral in
        let few : digits_value 16 digits ≤ 16777215 = six_digits digits numeral.1 six in
        none numeral (omega (arith, few))

-- what is read of few digits
pub no_offset : (word digits : List ℕ) → word ≡ codes "0x" ++ digits → (IsNumeral 16 digits → digits_value 16 digits < 2 ^ 32 → ⊥)
    → (n : ℕ) → IsOffset word n → ⊥
no_offset word digits is none n (inl a) = let most : n ≤ MAX_OFFSET = a.to in no_decimal word digits n (omega (arith, most)) a.spelled is
no_offset word digits is none n (inr a) =
    let same = same_rest_of a.0.digits digits (sym a.0.spelled ∙ is) in
    let value : n ≡ digits_value 16 digits = a.0.is ∙ ap (digits_value 16) same in
    let most : n ≤ MAX_OFFSET = a.1 in
    none (subst (IsNumeral 16) same a.0.numeral) (omega (arith, value, most))

pub offset_above : (word digits : List ℕ) (v : ℕ) → word ≡ codes "0x" ++ digits → v ≡ digits_value 16 digits → MAX_OFFSET < v → (n : ℕ) → IsOffset word n → ⊥
offset_above word digits v is value above n (inl a) = let most : n ≤ MAX_OFFSET = a.to in no_decimal word digits n (omega (arith, most)) a.spelled is
offset_above word digits v is value above n (inr a) =
    let same = same_rest_of a.0.digits digits (sym a.0.spelled ∙ is) in
    let both : n ≡ digits_value 16 digits = a.0.is ∙ ap (digits_value 16) same in
    let most : n ≤ MAX_OFFSET = a.1 in
    omega (arith, value, both, most, above)
