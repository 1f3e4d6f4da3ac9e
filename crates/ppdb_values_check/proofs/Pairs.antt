-- How the items of a list stand to each other, item by item.
use Rattle.std.{proofs.Common.{◌≡◌, ℕ, ◌+◌, ◌-◌, ◌<◌, ◌≤◌, List, length, get_or, arith, inl, inr}, specs.Prelude.{AllPairs}, proofs.lemmas.Bool.{cases_lt}}
use Rattle.std.proofs.lemmas.List.{get_or_read}
use Rattle.ppdb_values_check.specs.Pairs.{PairsBelow, PrefixStands}

module _ {X : Type 0} (R : X → X → Type 0) (xs : List X) where
  -- one item more, to which each one before it stands so
  pub pairs_more : (i : ℕ) → PairsBelow R xs i → PrefixStands R xs i i → PairsBelow R xs (i + 1)
  pairs_more i pairs prefix a b d lt below = elim (cases_lt b i) [
    | inl early ↦ pairs a b d lt early
    | inr last ↦ let e : b ≡ i = omega arith in rw e (prefix a d (omega arith))
  ]

  -- one item more, to which the one before it stands so, where the order goes on from item to item
  pub next_in_order : ((a b c : X) → R a b → R b c → R a c) → (i : ℕ) → 1 ≤ i → PairsBelow R xs i → ((d : X) → R (get_or xs (i - 1) d) (get_or xs i d))
      → PairsBelow R xs (i + 1)
  next_in_order goes_on i some pairs here = pairs_more i pairs
      (λ k d lt. elim (cases_lt k (i - 1)) [
        | inl early ↦ goes_on (get_or xs k d) (get_or xs (i - 1) d) (get_or xs i d) (pairs k (i - 1) d early (omega arith)) (here d)
        | inr last ↦ let e : k ≡ i - 1 = omega arith in rw e (here d)
      ])

  -- two items that do not stand so
  pub not_pairs : (i j : ℕ) (x y : X) → i < j → j < length xs → x ≡ get_or xs i x → y ≡ get_or xs j y → (R x y → ⊥) → AllPairs R xs → ⊥
  not_pairs i j x y lt inside first second wrong all =
      let here : y ≡ get_or xs j x = get_or_read xs j y inside second x in
      let stands : R (get_or xs i x) (get_or xs j x) = all i j x lt inside in
      wrong (rw (← first, ← here) at stands)
