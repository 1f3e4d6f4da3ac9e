-- A sum over the methods by their rows: each method that has points stands in its row, and the others are nothing.
use Rattle.std.{proofs.Common.{◌≡◌, ℕ, zero, suc, ◌+◌, ◌<◌, ◌≤◌, List, [], ◌∷◌, map, refl, ap, subst, arith, true, false, inl, inr, sum_by}, specs.Prelude.{Option}}
use Rattle.std.{specs.Prelude.{Some, None, ◌==◌}, specs.List.{find, range_with_len}, proofs.lemmas.Bool.{cases_lt}, proofs.lemmas.Bool.Decides.{nat_tests}}
use Rattle.std.proofs.lemmas.List.Sums.{sum_by-cons}
use Rattle.ppdb_tables.specs.RawTables.{row_at}
use Rattle.ppdb_values.specs.Ordered.{EachRow, Rises}

module _ {X : Type 0} (key : X → ℕ) (size : X → ℕ) where
  abbrev pub size_by : Option X → ℕ
  size_by None = 0
  size_by (Some x) = size x

  abbrev pub found : List X → ℕ → Option X
  found xs m = find (λ x. key x == m) xs

  -- keys that rise from a least one, below a number
  abbrev Ascend : ℕ → ℕ → List X → Type 0
  Ascend least top [] = Unit {0}
  Ascend least top (x ∷ xs) = (least ≤ key x) × (key x < top) × Ascend (key x + 1) top xs

  same_key : (a b : ℕ) → a ≡ b → (a == b) ≡ true
  same_key a b e = grind (arith, nat_tests)

  other_key : (a b : ℕ) → a < b → (b == a) ≡ false
  other_key a b lt = grind (arith, nat_tests)

  earlier_key : (a b : ℕ) → a < b → (a == b) ≡ false
  earlier_key a b lt = grind (arith, nat_tests)

  from_lower : (least lower top : ℕ) (xs : List X) → lower ≤ least → Ascend least top xs → Ascend lower top xs
  from_lower least lower top [] le ascend = tt
  from_lower least lower top (x ∷ xs) le ascend = let up = ascend.0 in (omega (arith, le, up), ascend.1, ascend.2)

  -- below the least there is none
  none_below : (least top m : ℕ) (xs : List X) → Ascend least top xs → m < least → found xs m ≡ None
  none_below least top m [] ascend below = refl
  none_below least top m (x ∷ xs) ascend below =
      let up = ascend.0 in
      rw (other_key m (key x) (omega (arith, up, below))) (none_below (key x + 1) top m xs ascend.2 (omega (arith, up, below)))

  abbrev rows_size : List X → ℕ → ℕ → ℕ
  rows_size xs from len = sum_by (λ m. size_by (found xs m)) (range_with_len from len)

  -- the first method is of no later row
  past_first : (x : X) (xs : List X) (from len : ℕ) → key x < from → rows_size (x ∷ xs) from len ≡ rows_size xs from len
  past_first x xs from zero below = refl
  past_first x xs from (suc len) below =
      let here : size_by (found (x ∷ xs) from) ≡ size_by (found xs from) = rw (earlier_key (key x) from below) refl in
      let later = past_first x xs (from + 1) len (omega (arith, below)) in
      omega (
        arith,
        here,
        later,
        sum_by-cons (λ m. size_by (found (x ∷ xs) m)) from (range_with_len (from + 1) len),
        sum_by-cons (λ m. size_by (found xs m)) from (range_with_len (from + 1) len),
      )

  counted : (xs : List X) (from len : ℕ) → rows_size xs from (suc len) ≡ size_by (found xs from) + rows_size xs (from + 1) len
  counted xs from len = sum_by-cons (λ m. size_by (found xs m)) from (range_with_len (from + 1) len)

  -- one row more, before rows that are summed
  one_more : (from len : ℕ) (xs : List X) → ((ys : List X) → Ascend (from + 1) (from + 1 + len) ys → rows_size ys (from + 1) len ≡ sum_by size ys)
      → Ascend from (from + 1 + len) xs → rows_size xs from (suc len) ≡ sum_by size xs
  one_more from len [] again up = let rest = again [] tt in omega (arith, rest, counted [] from len)
  one_more from len (x ∷ xs) again up = elim (cases_lt from (key x)) [
    | inl later ↦
        let ascend : Ascend (from + 1) (from + 1 + len) (x ∷ xs) = (omega (arith, later), up.1, up.2) in
        let rest = again (x ∷ xs) ascend in
        let none : size_by (found (x ∷ xs) from) ≡ 0 = ap size_by (none_below (from + 1) (from + 1 + len) from (x ∷ xs) ascend (omega arith)) in
        omega (arith, rest, none, counted (x ∷ xs) from len)
    | inr not ↦
        let least = up.0 in
        let here : key x ≡ from = omega (arith, least, not) in
        let ascend : Ascend (from + 1) (from + 1 + len) xs = from_lower (key x + 1) (from + 1) (from + 1 + len) xs (omega (arith, here)) up.2 in
        let rest = again xs ascend in
        let first : size_by (found (x ∷ xs) from) ≡ size x = rw (same_key (key x) from here) refl in
        let past = past_first x xs (from + 1) len (omega (arith, here)) in
        omega (arith, rest, first, past, counted (x ∷ xs) from len, sum_by-cons size x xs)
  ]

  in_rows : (from len : ℕ) (xs : List X) → Ascend from (from + len) xs → rows_size xs from len ≡ sum_by size xs
  in_rows from zero [] ascend = refl
  in_rows from zero (x ∷ xs) ascend = let up = ascend.0 in let below = ascend.1 in absurd (omega (arith, up, below))
  in_rows from (suc len) xs ascend =
      let top : from + suc len ≡ from + 1 + len = omega arith in
      one_more from len xs (λ ys up. in_rows (from + 1) len ys up) (subst (λ t. Ascend from t xs) top ascend)

  next_row : (x : X) (xs : List X) → Rises (map key (x ∷ xs)) → (y : X) → row_at xs 1 ≡ Some y → key x + 1 ≤ key y
  next_row x [] rises y here = cc
  next_row x (z ∷ zs) rises y here =
      let same : z ≡ y = cc in
      let up = rises 0 1 (omega arith) (omega arith) in
      subst (λ (w : X). key x + 1 ≤ key w) same (omega (arith, up))

  ascending : (least top : ℕ) (xs : List X) → Rises (map key xs) → EachRow (λ x. key x < top) xs → ((y : X) → row_at xs 1 ≡ Some y → least ≤ key y)
      → Ascend least top xs
  ascending least top [] rises below from = tt
  ascending least top (x ∷ xs) rises below from =
      (from x refl, below 1 x refl, ascending (key x + 1) top xs later (λ row y here. below_later row y here) (next_row x xs rises))
    where
      later : Rises (map key xs)
      later i j less within = rises (suc i) (suc j) (omega (arith, less)) (omega (arith, within))

      below_later : (row : ℕ) (y : X) → row_at xs row ≡ Some y → key y < top
      below_later zero y here = cc
      below_later (suc i) y here = below (suc (suc i)) y here

  -- The sizes of the rows from 1 on, as many as there are, are those of the methods.
  pub rows_size_is : (rows : ℕ) (xs : List X) → Rises (map key xs) → EachRow (λ x. (1 ≤ key x) × (key x ≤ rows)) xs
      → sum_by (λ m. size_by (found xs m)) (range_with_len 1 rows) ≡ sum_by size xs
  rows_size_is rows xs rises each =
      in_rows 1 rows xs
      (ascending 1 (1 + rows) xs rises (λ row x here. let high = (each row x here).1 in omega (arith, high)) (λ y here. (each 1 y here).0))
