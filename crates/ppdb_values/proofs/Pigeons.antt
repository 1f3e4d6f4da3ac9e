-- More numbers than there are values: two are equal.
use Rattle.std.proofs.Common.{◌≡◌, ℕ, zero, suc, ◌+◌, ◌-◌, ◌<◌, ◌≤◌, ◌≢◌, refl, arith, sym, ap, ◌∙◌, true, false, cond, inl, inr, ◌⊎◌, ◌*◌, zero-add}
use Rattle.std.{specs.Prelude.{◌==◌}, proofs.Math.Nat.{mul-le-mul_left}, proofs.lemmas.Bool.Decides.{nat_tests}}
use Rattle.ppdb_values.specs.Chains.{ancestor_of}

-- two places below a number where the values are equal
pub record Meets (f : ℕ → ℕ) (top : ℕ) : Type 0 where
  pub first : ℕ
  pub second : ℕ
  pub order : first < second
  pub within : second < top
  pub same : f first ≡ f second

eq_or_not : (a b : ℕ) → (a ≡ b) ⊎ (a ≢ b)
eq_or_not a b = grind (arith, nat_tests)

-- a value stands at some place below, or at none
among : (f : ℕ → ℕ) (v n : ℕ) → ((i : ℕ) × (i < n) × (f i ≡ v)) ⊎ ((i : ℕ) → i < n → f i ≢ v)
among f v zero = inr (λ i h. absurd (omega arith))
among f v (suc n) = elim (eq_or_not (f n) v) [
  | inl e ↦ inl (n, omega arith, e)
  | inr apart ↦ elim (among f v n) [
    | inl x ↦ let i = x.0 in let below : i < n = x.1 in inl (i, omega arith, x.2)
    | inr none ↦ inr (λ i h. elim (eq_or_not i n) [
      | inl e ↦ rw e apart
      | inr other ↦ none i (grind (arith, h, other))
    ])
  ]
]

-- the value n is replaced by v
abbrev swap : ℕ → ℕ → ℕ → ℕ
swap n v x = cond (x == n) v x

test_yes : (a b : ℕ) → a ≡ b → (a == b) ≡ true
test_yes a b h = grind (arith, nat_tests)

test_no : (a b : ℕ) → a ≢ b → (a == b) ≡ false
test_no a b h = grind (arith, nat_tests)

less : (a b : ℕ) → a < suc b → a ≢ b → a < b
less a b h apart = grind (arith, nat_tests)

swapped_below : (n v x : ℕ) → v < suc n → x < suc n → x ≢ v → swap n v x < n
swapped_below n v x hv hx apart = elim (eq_or_not x n) [
  | inl e ↦ rw (test_yes x n e) (less v n hv (λ (same : v ≡ n). apart (e ∙ sym same)))
  | inr other ↦ rw (test_no x n other) (less x n hx other)
]

swap_apart : (n v x y : ℕ) → x ≢ v → y ≢ v → swap n v x ≡ swap n v y → x ≡ y
swap_apart n v x y hx hy e = elim (eq_or_not x n) [
  | inl ex ↦ elim (eq_or_not y n) [
    | inl ey ↦ ex ∙ sym ey
    | inr ay ↦ absurd (hy (sym (rw (test_yes x n ex, test_no y n ay) at e)))
  ]
  | inr ax ↦ elim (eq_or_not y n) [
    | inl ey ↦ absurd (hx (rw (test_no x n ax, test_yes y n ey) at e))
    | inr ay ↦ rw (test_no x n ax, test_no y n ay) at e
  ]
]

pub pigeons : (n : ℕ) (f : ℕ → ℕ) → ((i : ℕ) → i < suc n → f i < n) → Meets f (suc n)
pigeons zero f below = absurd (let h = below 0 (omega arith) in omega (arith, h))
pigeons (suc n) f below = elim (among f (f (suc n)) (suc n)) [
  | inl x ↦ record { first = x.0; second = suc n; order = x.1; within = omega arith; same = x.2 }
  | inr none ↦
      let v = f (suc n) in
      let m = pigeons n (λ i. swap n v (f i)) (λ i h. swapped_below n v (f i) (below (suc n) (omega arith)) (below i (omega arith)) (none i h)) in
      let order = m.order in
      let within = m.within in
      record {
        first = m.first;
        second = m.second;
        order = m.order;
        within = omega (arith, within);
        same = swap_apart n v (f m.first) (f m.second) (none m.first (omega (arith, order, within))) (none m.second within) m.same;
      }
]

-- ---- chains of parents

ancestor_sum : (p : ℕ → ℕ) (row a b : ℕ) → ancestor_of p row (a + b) ≡ ancestor_of p (ancestor_of p row a) b
ancestor_sum p row zero b = rw (zero-add b) refl
ancestor_sum p row (suc a) b = let e : suc a + b ≡ suc (a + b) = omega arith in rw e (ancestor_sum p (p row) a b)

-- a chain that comes to one row twice has only rows that it had before the second time
loops : (p : ℕ → ℕ) (row first length : ℕ) → ancestor_of p row (first + length) ≡ ancestor_of p row first → (times : ℕ)
    → ancestor_of p row (first + times * length) ≡ ancestor_of p row first
loops p row first length e zero = let k : first + 0 * length ≡ first = omega arith in rw k refl
loops p row first length e (suc times) =
    let k : first + suc times * length ≡ (first + length) + times * length = omega arith in
    rw k (ancestor_sum p row (first + length) (times * length) ∙ ap (λ (r : ℕ). ancestor_of p r (times * length)) e
    ∙ sym (ancestor_sum p row first (times * length)) ∙ loops p row first length e times)

zero_stays : (p : ℕ → ℕ) → p 0 ≡ 0 → (k : ℕ) → ancestor_of p 0 k ≡ 0
zero_stays p e zero = refl
zero_stays p e (suc k) = rw e (zero_stays p e k)

zero_from : (p : ℕ → ℕ) → p 0 ≡ 0 → (row k m : ℕ) → ancestor_of p row k ≡ 0 → k ≤ m → ancestor_of p row m ≡ 0
zero_from p e row k m h le =
    let s : m ≡ k + (m - k) = omega arith in
    rw s (ancestor_sum p row k (m - k) ∙ ap (λ (r : ℕ). ancestor_of p r (m - k)) h ∙ zero_stays p e (m - k))

-- a chain that comes to a row twice never ends
pub never_zero : (p : ℕ → ℕ) → p 0 ≡ 0 → (row first len : ℕ) → 0 < len → ancestor_of p row (first + len) ≡ ancestor_of p row first → ancestor_of p row first ≢ 0
    → (k : ℕ) → ancestor_of p row k ≢ 0
never_zero p e row first len some same apart k h =
    let far : k * 1 ≤ k * len = mul-le-mul_left k some in
    let reached = zero_from p e row k (first + k * len) h (omega (arith, far)) in
    apart (sym (loops p row first len same k) ∙ reached)

stays_inside : (p : ℕ → ℕ) (rows row : ℕ) → ((r : ℕ) → p r ≤ rows) → row ≤ rows → (k : ℕ) → ancestor_of p row k ≤ rows
stays_inside p rows row inside here zero = here
stays_inside p rows row inside here (suc k) = stays_inside p rows (p row) inside (inside row) k

positive : (x rows : ℕ) → x ≢ 0 → x ≤ rows → x - 1 < rows
positive x rows apart h = grind (arith, apart)

both : (x y : ℕ) → x ≢ 0 → y ≢ 0 → x - 1 ≡ y - 1 → x ≡ y
both x y hx hy e = grind (arith, hx, hy)

-- a chain within a table of so many rows ends after as many steps, where it does not go on for ever
pub ends_within : (p : ℕ → ℕ) (rows row : ℕ) → p 0 ≡ 0 → ((r : ℕ) → p r ≤ rows) → row ≤ rows → (((k : ℕ) → ancestor_of p row k ≢ 0) → ⊥)
    → (k : ℕ) × (k ≤ rows) × (ancestor_of p row k ≡ 0)
ends_within p rows row e inside here ends = elim (among (ancestor_of p row) 0 (suc rows)) [
  | inl x ↦ (x.0, (let below = x.1 in omega (arith, below)), x.2)
  | inr none ↦
      let m = pigeons rows (λ k. ancestor_of p row k - 1) (λ k h. let in_table = stays_inside p rows row inside here k in
      positive (ancestor_of p row k) rows (none k h) in_table) in
      let order = m.order in
      let within = m.within in
      let same = both (ancestor_of p row m.first) (ancestor_of p row m.second) (none m.first (omega (arith, order, within))) (none m.second within) m.same in
      let s : m.first + (m.second - m.first) ≡ m.second = omega (arith, order) in
      absurd (ends (never_zero p e row m.first (m.second - m.first) (omega (arith, order)) (ap (ancestor_of p row) s ∙ sym same)
      (none m.first (omega (arith, order, within)))))
]
