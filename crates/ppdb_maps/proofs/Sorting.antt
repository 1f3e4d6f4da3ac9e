-- A list of distinct keys that was sorted ascends strictly, and what is found in it by a key is what was found before.
use Rattle.std.proofs.Common.{zero, suc, ◌≡◌, ◌<◌, ◌+◌, ℕ, Bool, true, false, cond, List, [], ◌∷◌, Option, Some, None, length, map, refl, sym, ap, ◌∙◌, subst, arith}
use Rattle.std.{proofs.Common.{slice_index_or}, specs.Cmp.{IsTotalOrder, IsEquivalence}, specs.List.{find, AllByRecursion, Contains, IsDistinct}}
use Rattle.std.specs.{List.Sorted.{IsStrictlySortedBy, IsSortedByKey, IsPermutation}, Ordering.{ordering_reverse, is_lt}, declared.cmp.Ordering.{Ordering}}
use Rattle.std.{specs.declared.cmp.Ordering.TheVariants.{Less, Equal, Greater}, proofs.lemmas.Bool.{false≢true}, proofs.lemmas.List.{get_or-map, length-map}}
use Rattle.std.proofs.lemmas.{List.Sorted.{IsPermutation-map, IsPermutation-sym, Contains-permutation}, Map.Keys.{IsDistinct-IsPermutation, apart_from_distinct}}
use Rattle.std.proofs.lemmas.Map.{Keys.{sorted_from_all_adjacent}, Lookups.{CmpEqualImpliesEq}}
use Rattle.ppdb_maps.proofs.OneList.{each_found}

module _ {X K : Type 0} (key : X → K) (same : K → K → Bool) (cmp : K → K → Ordering) (equal : IsEquivalence same)
    (is_same : (a b : K) → same a b ≡ true → a ≡ b) (total : IsTotalOrder cmp) (exact : CmpEqualImpliesEq cmp) where
  -- two that differ and are not the wrong way round are the right way round
  less_from : (a b : K) → is_lt (cmp b a) ≡ false → same a b ≡ false → cmp a b ≡ Less
  less_from a b not_less apart = of (cmp a b) refl
    where
      of : (o : Ordering) → cmp a b ≡ o → cmp a b ≡ Less
      of Less is = is
      of Equal is = absurd (false≢true (sym apart ∙ (ap (λ k. same a k) (sym (exact a b is)) ∙ equal.refl a)))
      of Greater is = absurd (false≢true (sym not_less ∙ ap is_lt (total.antisymm b a ∙ ap ordering_reverse is)))

  pub sorts_strictly : (xs ys : List X) → IsDistinct same (map key xs) → IsPermutation xs ys → IsSortedByKey key cmp ys → IsStrictlySortedBy cmp (map key ys)
  unfolding IsStrictlySortedBy
  sorts_strictly xs [] distinct moved sorted = tt
  sorts_strictly xs (y ∷ ys) distinct moved sorted =
      let apart : IsDistinct same (map key (y ∷ ys)) = IsDistinct-IsPermutation same equal.symm (map key xs) (map key (y ∷ ys))
      (IsPermutation-map key xs (y ∷ ys) moved) distinct in
      let long : length (map key (y ∷ ys)) ≡ length (y ∷ ys) = length-map (y ∷ ys) key in
      sorted_from_all_adjacent total (map key (y ∷ ys)) (key y) (λ k lt.
      less_from (slice_index_or (map key (y ∷ ys)) k (key y)) (slice_index_or (map key (y ∷ ys)) (k + 1) (key y))
      (ap is_lt (ap (λ a. cmp a (slice_index_or (map key (y ∷ ys)) k (key y))) (get_or-map key (y ∷ ys) (k + 1) y (key y) (omega (arith, lt, long)))
      ∙ ap (λ a. cmp (key (slice_index_or (y ∷ ys) (k + 1) y)) a) (get_or-map key (y ∷ ys) k y (key y) (omega (arith, lt, long))))
      ∙ sorted k y (omega arith) (omega (arith, lt, long)))
      (apart_from_distinct same (map key (y ∷ ys)) k (k + 1) (key y) apart (omega arith) lt))

  abbrev at : K → List X → Option X
  at k xs = find (λ x. same (key x) k) xs

  -- what is found is in the list, at its key
  found_in : (k : K) (xs : List X) (x : X) → at k xs ≡ Some x → Contains xs x × (same (key x) k ≡ true)
  found_in k [] x is = absurd (cc)
  found_in k (y ∷ ys) x is = step (same (key y) k) refl is (λ rest. found_in k ys x rest)
    where
      step : (b : Bool) → same (key y) k ≡ b → cond b (Some y) (at k ys) ≡ Some x → (at k ys ≡ Some x → Contains ys x × (same (key x) k ≡ true))
          → Contains (y ∷ ys) x × (same (key x) k ≡ true)
      step true hit is rest = let e : y ≡ x = cc in ((0, omega arith, e), subst (λ z. same (key z) k ≡ true) e hit)
      step false miss is rest = let r = rest is in ((suc r.0.0, omega (arith, r.0.1), r.0.2), r.1)

  -- where none is found none is at the key
  missed : (k : K) (xs : List X) (i : ℕ) (d : X) → at k xs ≡ None → i < length xs → same (key (slice_index_or xs i d)) k ≡ false
  missed k [] i d none inside = absurd (omega (arith, inside))
  missed k (y ∷ ys) i d none inside = step (same (key y) k) refl none i inside (λ j rest less. missed k ys j d rest less)
    where
      step : (b : Bool) → same (key y) k ≡ b → cond b (Some y) (at k ys) ≡ None → (i : ℕ) → i < length (y ∷ ys)
          → ((j : ℕ) → at k ys ≡ None → j < length ys → same (key (slice_index_or ys j d)) k ≡ false) → same (key (slice_index_or (y ∷ ys) i d)) k ≡ false
      step true hit none i inside rest = absurd (cc)
      step false miss none zero inside rest = miss
      step false miss none (suc i) inside rest = rest i none (omega (arith, inside))

  all_at : (P : X → Type 0) (xs : List X) (i : ℕ) (d : X) → AllByRecursion P xs → i < length xs → P (slice_index_or xs i d)
  all_at P [] i d all inside = absurd (omega (arith, inside))
  all_at P (x ∷ xs) zero d all inside = all.0
  all_at P (x ∷ xs) (suc i) d all inside = all_at P xs i d all.1 (omega (arith, inside))

  pub found_alike : (xs ys : List X) → IsPermutation xs ys → IsStrictlySortedBy cmp (map key ys) → (k : K) → at k ys ≡ at k xs
  found_alike xs ys moved sorted k = of (at k xs) refl
    where
      none_in : at k xs ≡ None → (o : Option X) → at k ys ≡ o → o ≡ None
      none_in none None is = refl
      none_in none (Some y) is =
          let found = found_in k ys y is in
          let back : Contains xs y = Contains-permutation ys xs y (IsPermutation-sym xs ys moved) found.0 in
          absurd (false≢true (sym (subst (λ z. same (key z) k ≡ false) back.2 (missed k xs back.0 y none back.1)) ∙ found.1))

      of : (o : Option X) → at k xs ≡ o → at k ys ≡ at k xs
      of None is = none_in is (at k ys) refl ∙ sym is
      of (Some x) is =
          let found = found_in k xs x is in
          let there : Contains ys x = Contains-permutation xs ys x moved found.0 in
          let each : AllByRecursion (λ z. at (key z) ys ≡ Some z) ys = each_found key same cmp is_same equal.refl total
          (λ z. at (key z) ys ≡ Some z) ys sorted (λ z e. e) in
          let itself : at (key x) ys ≡ Some x = subst (λ z. at (key z) ys ≡ Some z) there.2 (all_at (λ z. at (key z) ys ≡ Some z) ys there.0 x each there.1) in
          subst (λ j. at j ys ≡ Some x) (is_same (key x) k found.1) itself ∙ sym is
