-- The bits of some tables, and which tables they are.
use Rattle.std.proofs.Common.{◌≡◌, ℕ, zero, suc, ◌+◌, ◌*◌, ◌/◌, ◌%◌, ◌^◌, ◌<◌, ◌≤◌, Bool, true, false, cond, List, [], ◌∷◌, ◌++◌, length, filter, refl, sym, ap, ◌∙◌}
use Rattle.std.proofs.{Common.{arith, add-one, add-zero, zero-add, length-append}, lemmas.Nat.Bits.{bit_at_lowest, bit_at-suc}, lemmas.List.Elements.{filter-append}}
use Rattle.std.{proofs.Math.Nat.{pow-suc, mul_comm}, specs.List.{range_with_len}, specs.Int.{bit_at}, proofs.lemmas.List.Sums.{sum_by-cons}}
use Rattle.ppdb_tables.{specs.Counts.{counts_below}, proofs.RowCounts.{counts-step, counts-zero}}
use Rattle.ppdb_build_layout.specs.Bytes.{bits_of}

-- the tests' answers as a number, the first answer as the lowest bit
abbrev pub number_from : (ℕ → Bool) → ℕ → ℕ → ℕ
number_from test at zero = 0
number_from test at (suc n) = cond (test at) 1 0 + 2 * number_from test (at + 1) n

bits-cons : (test : ℕ → Bool) (at n : ℕ)
    → bits_of (filter test (range_with_len at (suc n))) ≡ cond (test at) (2 ^ at) 0 + bits_of (filter test (range_with_len (at + 1) n))
bits-cons test at n = by (test at)
  where
    by : (b : Bool) → bits_of (cond b (at ∷ filter test (range_with_len (at + 1) n)) (filter test (range_with_len (at + 1) n))) ≡ cond b
        (2 ^ at) 0 + bits_of (filter test (range_with_len (at + 1) n))
    by true = sum_by-cons (λ number. 2 ^ number) at (filter test (range_with_len (at + 1) n))
    by false = omega arith

-- the bits of the tables that pass are that number, moved up
pub bits-are : (test : ℕ → Bool) (n at : ℕ) → bits_of (filter test (range_with_len at n)) ≡ 2 ^ at * number_from test at n
bits-are test zero at = omega arith
bits-are test (suc n) at =
    bits-cons test at n
    ∙ ap (λ rest. cond (test at) (2 ^ at) 0 + rest) (bits-are test n (at + 1))
    ∙ by (test at) (number_from test (at + 1) n) (pow-up at)
  where
    pow-up : (at : ℕ) → 2 ^ (at + 1) ≡ 2 * 2 ^ at
    pow-up at = rw add-one (pow-suc 2 at ∙ mul_comm (2 ^ at) 2)

    by : (b : Bool) (m : ℕ) → 2 ^ (at + 1) ≡ 2 * 2 ^ at → cond b (2 ^ at) 0 + 2 ^ (at + 1) * m ≡ 2 ^ at * (cond b 1 0 + 2 * m)
    by true m e = rw e (omega arith)
    by false m e = rw e (omega arith)

-- the number has no more bits than there are tests
pub number-below : (test : ℕ → Bool) (n at : ℕ) → number_from test at n < 2 ^ n
number-below test zero at = omega arith
number-below test (suc n) at = by (test at) (number_from test (at + 1) n) (number-below test n (at + 1)) (pow-suc 2 n ∙ mul_comm (2 ^ n) 2)
  where
    by : (b : Bool) (m : ℕ) → m < 2 ^ n → 2 ^ suc n ≡ 2 * 2 ^ n → cond b 1 0 + 2 * m < 2 ^ suc n
    by true m h e = omega (arith, h, e)
    by false m h e = omega (arith, h, e)

-- bit k of the number is the test's answer k places on
pub bit-is : (test : ℕ → Bool) (n at k : ℕ) → k < n → bit_at (number_from test at n) k ≡ cond (test (at + k)) 1 0
bit-is test zero at k h = absurd (omega (arith, h))
bit-is test (suc n) at zero h =
    bit_at_lowest (number_from test at (suc n)) ∙ by (test at) (number_from test (at + 1) n) ∙ ap (λ m. cond (test m) 1 0) (sym (add-zero at))
  where
    by : (b : Bool) (m : ℕ) → (cond b 1 0 + 2 * m) % 2 ≡ cond b 1 0
    by true m = omega arith
    by false m = omega arith
bit-is test (suc n) at (suc k) h =
    bit_at-suc (number_from test at (suc n)) k
    ∙ ap (λ m. bit_at m k) (by (test at) (number_from test (at + 1) n))
    ∙ bit-is test n (at + 1) k (omega (arith, h))
    ∙ ap (λ m. cond (test m) 1 0) (omega arith)
  where
    by : (b : Bool) (m : ℕ) → (cond b 1 0 + 2 * m) / 2 ≡ m
    by true m = omega arith
    by false m = omega arith

-- which tables are counted can be read off the bits
pub counted : (test : ℕ → Bool) (n table : ℕ) → table < n → bit_at (bits_of (filter test (range_with_len 0 n))) table ≡ cond (test table) 1 0
counted test n table h =
    ap (λ m. bit_at m table) (bits-are test n 0 ∙ omega arith) ∙ bit-is test n 0 table h ∙ ap (λ m. cond (test m) 1 0) (zero-add table)

-- ---- ranges

pub range-split : (at n m : ℕ) → range_with_len at (n + m) ≡ range_with_len at n ++ range_with_len (at + n) m
range-split at zero m = ap (range_with_len at) (zero-add m) ∙ ap (λ a. range_with_len a m) (sym (add-zero at))
range-split at (suc n) m =
    let e : suc n + m ≡ suc (n + m) = omega arith in
    let f : at + 1 + n ≡ at + suc n = omega arith in
    ap (range_with_len at) e ∙ ap (λ rest. at ∷ rest) (range-split (at + 1) n m ∙ ap (λ a. range_with_len (at + 1) n ++ range_with_len a m) f)

pub range-suc : (at n : ℕ) → range_with_len at (suc n) ≡ range_with_len at n ++ (at + n) ∷ []
range-suc at zero = ap (λ t. t ∷ []) (omega arith)
range-suc at (suc n) = ap (λ rest. at ∷ rest) (range-suc (at + 1) n) ∙ ap (λ t. at ∷ (range_with_len (at + 1) n ++ t ∷ [])) (omega arith)

-- tests that agree on some tables let the same pass
pub filter-same : (p q : ℕ → Bool) (n at : ℕ) → ((t : ℕ) → at ≤ t → t < at + n → p t ≡ q t) → filter p (range_with_len at n) ≡ filter q (range_with_len at n)
filter-same p q zero at same = refl
filter-same p q (suc n) at same =
    ap (λ b. cond b (at ∷ filter p (range_with_len (at + 1) n)) (filter p (range_with_len (at + 1) n))) (same at (omega arith) (omega arith))
    ∙ ap (λ rest. cond (q at) (at ∷ rest) rest) (filter-same p q n (at + 1) (λ t from to. same t (omega (arith, from)) (omega (arith, to))))

pub filter-none : (p : ℕ → Bool) (n at : ℕ) → ((t : ℕ) → at ≤ t → t < at + n → p t ≡ false) → filter p (range_with_len at n) ≡ []
filter-none p zero at none = refl
filter-none p (suc n) at none =
    ap (λ b. cond b (at ∷ filter p (range_with_len (at + 1) n)) (filter p (range_with_len (at + 1) n))) (none at (omega arith) (omega arith))
    ∙ filter-none p n (at + 1) (λ t from to. none t (omega (arith, from)) (omega (arith, to)))

-- ---- how many bits are set below a table

pub below-is : (test : ℕ → Bool) (bits n : ℕ) → ((t : ℕ) → t < n → bit_at bits t ≡ cond (test t) 1 0)
    → counts_below bits n ≡ length (filter test (range_with_len 0 n))
below-is test bits zero are = counts-zero bits
below-is test bits (suc n) are =
    let prefix = filter test (range_with_len 0 n) in
    counts-step bits n
    ∙ ap (λ k. k + bit_at bits n) (below-is test bits n (λ t h. are t (omega (arith, h))))
    ∙ ap (λ k. length prefix + k) (are n (omega arith))
    ∙ by (test n) prefix
    ∙ ap length (sym (ap (filter test) (range-suc 0 n ∙ ap (λ t. range_with_len 0 n ++ t ∷ []) (zero-add n))
    ∙ filter-append test (range_with_len 0 n) (n ∷ [])))
  where
    by : (b : Bool) (prefix : List ℕ) → length prefix + cond b 1 0 ≡ length (prefix ++ cond b (n ∷ []) [])
    by true prefix = sym (length-append prefix (n ∷ []))
    by false prefix = omega (arith, length-append prefix [])
