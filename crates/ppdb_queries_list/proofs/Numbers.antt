-- How decimal numbers below 2^32 are spelled.
use Rattle.std.proofs.Common.{zero, suc, ◌≡◌, ℕ, ◌<◌, ◌^◌, ◌≢◌, ◌⊎◌, List, [], ◌∷◌, length, get_or, sym, ap, ◌∙◌, subst, inl, inr, arith, Result, Ok, Err, IfSome}
use Rattle.std.{proofs.Common.{IfNone}, specs.Fmt.{decimal}, specs.Result.{result_ok, OkIff}, specs.Str.Parse.{AllDigits, digits_value, ParsesUnsigned}}
use Rattle.std.proofs.lemmas.{Str.Parse.{IsNumeralModel, numerals_by_value, tells_digits, digit_at, parse_plain}, Fmt.{digits_decimal, decimal_nonempty}}
use Rattle.std.proofs.lemmas.Fmt.{first_decimal, decimal_digit, decimal-digits_value, parse-decimal}

numerals : IsNumeralModel (AllDigits 10) (digits_value 10)
numerals = numerals_by_value (AllDigits 10) tells_digits

-- the first digit of a number is a zero only where that is all
pub record BeginsAsNumber (word : List ℕ) : Type 0 where
  pub some : 0 < length word
  pub digit : get_or word 0 0 < 58
  pub first : (48 < get_or word 0 0) ⊎ ((get_or word 0 0 ≡ 48) × (length word ≡ 1))

pub begins_as_number : (n : ℕ) (word : List ℕ) → n < 2 ^ 32 → word ≡ decimal n → BeginsAsNumber word
begins_as_number n word below is =
    let some : 0 < length (decimal n) = decimal_nonempty n (omega arith) in
    let digit = digit_at (decimal n) 0 (digits_decimal numerals n (omega arith)) some in
    subst (λ w. BeginsAsNumber w) (sym is) (record { some = some; digit = omega (arith, digit.1); first = by_size n below })
  where
    by_size : (n : ℕ) → n < 2 ^ 32 → (48 < get_or (decimal n) 0 0) ⊎ ((get_or (decimal n) 0 0 ≡ 48) × (length (decimal n) ≡ 1))
    by_size zero below = let e : decimal 0 ≡ 48 ∷ [] = decimal_digit 0 (omega arith) in inr (ap (λ w. get_or w 0 0) e, ap length e)
    by_size (suc n) below = inl (first_decimal (suc n) (omega arith) (omega arith))

-- what `parse` reads of a word without a sign and leading zeros
pub parsed : {E : Type 0} (r : Result ℕ E) (word : List ℕ) → ParsesUnsigned 32 10 word r → get_or word 0 0 ≢ 43 → (get_or word 0 0 ≡ 48 → length word ≡ 1)
    → IfSome (result_ok r) (λ n. word ≡ decimal n)
parsed r word h plain lead = by_result r (parse_plain numerals 32 word r h plain)
  where
    by_result : {E : Type 0} (r : Result ℕ E) → OkIff r (AllDigits 10 word × (0 < length word) × (digits_value 10 word < 2 ^ 32)) (digits_value 10 word)
        → IfSome (result_ok r) (λ n. word ≡ decimal n)
    by_result (Ok n) is = sym (ap decimal is.1 ∙ decimal-digits_value numerals word is.0.0 is.0.1 lead (omega (arith, is.0.2)))
    by_result (Err e) is = tt

pub not_parsed : {E : Type 0} (r : Result ℕ E) (word : List ℕ) → ParsesUnsigned 32 10 word r
    → IfNone (result_ok r) ((n : ℕ) → n < 2 ^ 32 → word ≡ decimal n → ⊥)
not_parsed (Ok n) word h = tt
not_parsed (Err e) word h = λ n below is. let k = parse-decimal 32 n word (Err e) below (omega arith) is h in cc
