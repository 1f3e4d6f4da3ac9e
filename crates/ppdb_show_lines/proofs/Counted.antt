-- How many digits a number has.
use Rattle.std.proofs.Common.{ℕ, ◌+◌, ◌/◌, ◌≡◌, ◌<◌, ◌≤◌, List, ◌++◌, length, take, drop, sym, ◌∙◌, ap, append_assoc, arith, length-append}
use Rattle.std.{proofs.lemmas.List.{length-take-le, take-append-drop, take_at}, specs.Fmt.{decimal}}
use Rattle.itoa.proofs.Decimal.{length_one, length_two, length_pair, length_four}

pub one_digit : (n : ℕ) → n < 10 → 1 ≡ length (decimal n)
one_digit n h = let e = length_one n h in omega (arith, e)

pub two_digits : (n : ℕ) → 10 ≤ n → n < 100 → 2 ≡ length (decimal n)
two_digits n h k = let e = length_two n h k in omega (arith, e)

pub three_digits : (n : ℕ) → 100 ≤ n → n < 1000 → 3 ≡ length (decimal n)
three_digits n h k =
    let e = length_pair n h (omega arith) in
    let d = length_one (n / 100) (omega arith) in
    omega (arith, e, d)

pub four_digits : (n : ℕ) → 1000 ≤ n → n < 10000 → 4 ≡ length (decimal n)
four_digits n h k =
    let e = length_pair n (omega arith) (omega arith) in
    let d = length_two (n / 100) (omega arith) (omega arith) in
    omega (arith, e, d)

pub more_digits : (n few : ℕ) → 10000 ≤ n → n < 4294967296 → few ≡ length (decimal (n / 10000)) → 4 + few ≡ length (decimal n)
more_digits n few h k e = let d = length_four n h (omega arith) in omega (arith, e, d)

-- the digits that were written after some bytes
pub digits_put : (bytes new : List ℕ) (len start end n : ℕ) → start + length (decimal n) ≡ end → end ≡ len + length (decimal n) → len ≤ length bytes
    → drop start new ≡ decimal n ++ drop end bytes → take start new ≡ take start bytes → take end new ≡ take len bytes ++ decimal n
digits_put bytes new len start end n s e within written before =
    let same : start ≡ len = omega (arith, s, e) in
    let whole : new ≡ (take len bytes ++ decimal n) ++ drop end bytes =
    sym (take-append-drop start new) ∙ rw (before, written, same) (sym (append_assoc (take len bytes) (decimal n) (drop end bytes))) in
    let many : length (take len bytes ++ decimal n) ≡ end = length-append (take len bytes) (decimal n) ∙ rw (length-take-le len bytes within) (sym e) in
    ap (take end) whole ∙ take_at (take len bytes ++ decimal n) (drop end bytes) end many
