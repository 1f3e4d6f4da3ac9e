-- What digits write, and that words which write numbers are texts.
use Rattle.std.{proofs.Common.{ℕ, ◌≡◌, ◌+◌, ◌*◌, ◌<◌, ◌≤◌, ◌^◌, List, [], ◌∷◌, length, sym, subst, arith}, specs.Char.{digit_value}, specs.Fmt.{decimal}}
use Rattle.std.{specs.Str.{IsAscii}, specs.Str.Parse.{AllDigits, digits_value}, proofs.lemmas.Fmt.{IsAscii-decimal}, proofs.lemmas.Bool.Decides.{nat_tests}}
use Rattle.std.proofs.lemmas.Str.Ascii.{IsAscii-nil, IsAscii-cons}

-- a hexadecimal digit is ASCII
digit_small : (c : ℕ) → digit_value c < 16 → c < 128
digit_small c h = grind (arith, nat_tests, h)

pub digits_ascii : (ds : List ℕ) → AllDigits 16 ds → IsAscii ds
digits_ascii [] h = IsAscii-nil
digits_ascii (c ∷ cs) h = IsAscii-cons c cs (digit_small c h.0) (digits_ascii cs h.1)

pub decimal_ascii : (word : List ℕ) (n : ℕ) → n < 2 ^ 64 → word ≡ decimal n → IsAscii word
decimal_ascii word n below is = subst IsAscii (sym is) (IsAscii-decimal n below)

-- six digits write a row
pub six_digits : (ds : List ℕ) → AllDigits 16 ds → length ds ≡ 6 → digits_value 16 ds ≤ 16777215
six_digits [] h e = omega arith
six_digits (a ∷ []) h e = absurd (omega (arith, e))
six_digits (a ∷ b ∷ []) h e = absurd (omega (arith, e))
six_digits (a ∷ b ∷ c ∷ []) h e = absurd (omega (arith, e))
six_digits (a ∷ b ∷ c ∷ d ∷ []) h e = absurd (omega (arith, e))
six_digits (a ∷ b ∷ c ∷ d ∷ k ∷ []) h e = absurd (omega (arith, e))
six_digits (a ∷ b ∷ c ∷ d ∷ k ∷ f ∷ []) h e =
    let h0 : digit_value a < 16 = h.0 in
    let h1 : digit_value b < 16 = h.1.0 in
    let h2 : digit_value c < 16 = h.1.1.0 in
    let h3 : digit_value d < 16 = h.1.1.1.0 in
    let h4 : digit_value k < 16 = h.1.1.1.1.0 in
    let h5 : digit_value f < 16 = h.1.1.1.1.1.0 in
    of (digit_value a) (digit_value b) (digit_value c) (digit_value d) (digit_value k) (digit_value f) h0 h1 h2 h3 h4 h5
  where
    of : (a b c d k f : ℕ) → a < 16 → b < 16 → c < 16 → d < 16 → k < 16 → f < 16
        → (((((0 * 16 + a) * 16 + b) * 16 + c) * 16 + d) * 16 + k) * 16 + f ≤ 16777215
    of a b c d k f h0 h1 h2 h3 h4 h5 = omega (arith, h0, h1, h2, h3, h4, h5)
six_digits (a ∷ b ∷ c ∷ d ∷ k ∷ f ∷ g ∷ ds) h e = absurd (omega (arith, e))
