-- How often a list can be halved.
use Rattle.std.proofs.Common.{◌≡◌, ℕ, zero, suc, ◌+◌, ◌*◌, ◌<◌, ◌≤◌, ◌^◌, List, [], ◌∷◌, length, arith, mul_assoc, ◌∙◌, ap, Bool, true, false, cond}
use Rattle.std.{specs.Prelude.{nat_le}, specs.List.{filter, range_with_len}, proofs.Math.Pow.{pow_mono}, proofs.Math.Nat.{pow-suc, mul-le-mul_left}}
use Rattle.std.proofs.lemmas.{Bool.Decides.{nat_tests}, List.FromFn.{length-range_with_len}}
use Rattle.ppdb_queries.specs.Digits.{digits}

-- so many probes were made of a table of so many rows, and so many rows are left
pub record Halved (rows probes left : ℕ) : Type 0 where
  pub cost : 2 ^ probes ≤ 2 * rows + 1
  pub work : 2 ^ probes * left ≤ rows

pub unhalved : (rows left : ℕ) → left ≤ rows → Halved rows 0 left
unhalved rows left h = record { cost = omega arith; work = omega arith }

product : (p a b n : ℕ) → a + a ≤ b → p * b ≤ n → p * 2 * a ≤ n
product p a b n h w =
    let e : p * 2 * a ≡ p * (a + a) = mul_assoc p 2 a ∙ ap (λ (x : ℕ). p * x) (omega arith) in
    let m : p * (a + a) ≤ p * b = mul-le-mul_left p h in
    omega (arith, e, m)

-- a probe leaves at most half
pub halved : (rows probes left less : ℕ) → Halved rows probes left → 1 ≤ left → less + less ≤ left → Halved rows (suc probes) less
halved rows probes left less h some half = record {
  cost = let m : 2 ^ probes * 1 ≤ 2 ^ probes * left = mul-le-mul_left (2 ^ probes) some in let w = h.work in let e = pow-suc 2 probes in omega (arith, m, w, e);
  work = rw (pow-suc 2 probes) (product (2 ^ probes) less left rows half h.work);
}

above_self : (k : ℕ) → k < 2 ^ k
above_self zero = omega arith
above_self (suc k) = let h = above_self k in let e = pow-suc 2 k in omega (arith, e)

test : (a b : ℕ) → a ≤ b → nat_le a b ≡ true
test a b h = grind (arith, nat_tests)

-- the numbers from one on pass, where their powers are not above another one
passing : (k a n m : ℕ) → k ≤ n → ((d : ℕ) → d < a + k → 2 ^ d ≤ m) → k ≤ length (filter (λ d. nat_le (2 ^ d) m) (range_with_len a n))
passing zero a n m h all = omega arith
passing (suc k) a zero m h all = absurd (omega arith)
passing (suc k) a (suc n) m h all =
    rw (test (2 ^ a) m (all a (omega arith)))
    (let more : k ≤ length (filter (λ d. nat_le (2 ^ d) m) (range_with_len (a + 1) n)) = passing k (a + 1) n m (omega arith) (λ d below. all d (omega arith)) in
    omega (arith, more))

filter_most : {X : Type 0} (p : X → Bool) (xs : List X) → length (filter p xs) ≤ length xs
filter_most p [] = omega arith
filter_most p (x ∷ xs) =
    let more = filter_most p xs in
    elim (p x) as (λ b. length (cond b (x ∷ filter p xs) (filter p xs)) ≤ suc (length xs)) [
      | true ↦ omega (arith, more)
      | false ↦ omega (arith, more)
    ]

-- a number has no more digits than it counts
pub digits_most : (n : ℕ) → digits n ≤ n
unfolding digits
digits_most n =
    let most = filter_most (λ d. nat_le (2 ^ d) n) (range_with_len 0 n) in
    let len = length-range_with_len 0 n in
    omega (arith, most, len)

-- as many halvings as there are binary digits
pub within_digits : (t n : ℕ) → 2 ^ t ≤ 2 * n + 1 → t ≤ digits n
unfolding digits
within_digits zero n h = omega arith
within_digits (suc k) n h =
    let e = pow-suc 2 k in
    let low : 2 ^ k ≤ n = omega (arith, e) in
    passing (suc k) 0 n n (omega (arith, above_self k)) (λ d below. let mono : 2 ^ d ≤ 2 ^ k = pow_mono (omega arith) in omega (arith, mono, low))
