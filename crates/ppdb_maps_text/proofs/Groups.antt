-- Entries that ascend by a number, kept apart by the numbers that they have, are the entries in their order.
use Rattle.std.proofs.Common.{ℕ, ◌≡◌, ◌<◌, ◌≤◌, ◌||◌, ◌++◌, Bool, true, false, cond, List, [], ◌∷◌, Some, refl, sym, ◌∙◌, ap, map, subst, arith, inl, inr}
use Rattle.std.specs.{Prelude.{nat_eq, filter}, List.{find, list_any, flat_map, AllByRecursion}, List.Sorted.{IsStrictlySortedBy}, Ordering.{nat_cmp}}
use Rattle.std.{specs.declared.cmp.Ordering.TheVariants.{Less, Equal, Greater}, proofs.lemmas.Bool.{false≢true, eqb-true, ne_eqb, cases_lt, le-ltb}}
use Rattle.ppdb_maps.specs.Map.{pair_cmp}

-- below by the order is below
pub less : (x y : ℕ) → nat_cmp x y ≡ Less → x < y
less x y is = elim (cases_lt x y) [ inl h ↦ h | inr h ↦ absurd (other h (nat_eq x y) refl) ]
  where
    other : y ≤ x → (b : Bool) → nat_eq x y ≡ b → ⊥
    other h true e = let k : Equal ≡ Less = sym (rw (le-ltb x y h, e) refl) ∙ is in absurd (cc)
    other h false e = let k : Greater ≡ Less = sym (rw (le-ltb x y h, e) refl) ∙ is in absurd (cc)

-- pairs in order ascend by their first numbers
pair_less : (p q : ℕ × ℕ) → pair_cmp p q ≡ Less → p.0 ≤ q.0
pair_less p q is = elim (cases_lt q.0 p.0) [ inl h ↦ absurd (other h) | inr h ↦ h ]
  where
    other : q.0 < p.0 → ⊥
    other h =
        let k : Greater ≡ Less = sym (rw (le-ltb p.0 q.0 (omega (arith, h)), ne_eqb p.0 q.0 (λ e. omega (arith, e, h))) refl) ∙ is in absurd (cc)

module _ {C X : Type 0} (group : C → ℕ) (member : X → ℕ) where
  abbrev chosen : List X → C → List X
  chosen xs c = filter (λ x. nat_eq (member x) (group c)) xs

  -- no group from there on is the one of the entry
  skipped : (x : X) (xs : List X) (n : ℕ) → member x ≡ n → (cs : List C) → AllByRecursion (λ y. nat_cmp n y ≡ Less) (map group cs)
      → flat_map (chosen (x ∷ xs)) cs ≡ flat_map (chosen xs) cs
  skipped x xs n is [] above = refl
  skipped x xs n is (c ∷ cs) above =
      let miss : nat_eq (member x) (group c) ≡ false = ne_eqb (member x) (group c) (λ e. let h = less n (group c) above.0 in omega (arith, e, h, is)) in
      ap (λ b. cond b (x ∷ chosen xs c) (chosen xs c) ++ flat_map (chosen (x ∷ xs)) cs) miss ∙ ap (λ l. chosen xs c ++ l) (skipped x xs n is cs above.1)

  -- entries above a group are not of it
  none_chosen : (xs : List X) (c : C) → AllByRecursion (λ x. group c < member x) xs → chosen xs c ≡ []
  none_chosen [] c above = refl
  none_chosen (x ∷ xs) c above =
      let miss : nat_eq (member x) (group c) ≡ false = ne_eqb (member x) (group c) (λ e. let h = above.0 in omega (arith, e, h)) in
      ap (λ b. cond b (x ∷ chosen xs c) (chosen xs c)) miss ∙ none_chosen xs c above.1

  above_all : (n m : ℕ) (xs : List X) → n < m → AllByRecursion (λ x. m ≤ member x) xs → AllByRecursion (λ x. n < member x) xs
  above_all n m [] below all = tt
  above_all n m (x ∷ xs) below all = ((let h = all.0 in omega (arith, h, below)), above_all n m xs below all.1)

  -- a number that groups have is above what is below them
  any_above : (n m : ℕ) (cs : List C) → AllByRecursion (λ y. nat_cmp n y ≡ Less) (map group cs) → list_any (λ c. nat_eq m (group c)) cs ≡ true → n < m
  any_above n m [] above is = absurd (false≢true is)
  any_above n m (c ∷ cs) above is = of (nat_eq m (group c)) refl is (any_above n m cs above.1)
    where
      of : (b : Bool) → nat_eq m (group c) ≡ b → (b || list_any (λ c. nat_eq m (group c)) cs) ≡ true
          → (list_any (λ c. nat_eq m (group c)) cs ≡ true → n < m) → n < m
      of true hit is rest = let h = less n (group c) above.0 in let e = eqb-true m (group c) hit in omega (arith, h, e)
      of false miss is rest = rest is

  -- the first entry stands at the start of the groups
  prefix : (x : X) (xs : List X) → AllByRecursion (λ y. member x ≤ member y) xs → (cs : List C) → IsStrictlySortedBy nat_cmp (map group cs)
      → list_any (λ c. nat_eq (member x) (group c)) cs ≡ true → flat_map (chosen (x ∷ xs)) cs ≡ x ∷ flat_map (chosen xs) cs
  unfolding IsStrictlySortedBy
  prefix x xs later [] sorted is = absurd (false≢true is)
  prefix x xs later (c ∷ cs) sorted is = of (nat_eq (member x) (group c)) refl is (prefix x xs later cs sorted.1)
    where
      of : (b : Bool) → nat_eq (member x) (group c) ≡ b → (b || list_any (λ c. nat_eq (member x) (group c)) cs) ≡ true
          → (list_any (λ c. nat_eq (member x) (group c)) cs ≡ true → flat_map (chosen (x ∷ xs)) cs ≡ x ∷ flat_map (chosen xs) cs)
          → cond b (x ∷ chosen xs c) (chosen xs c) ++ flat_map (chosen (x ∷ xs)) cs ≡ x ∷ (chosen xs c ++ flat_map (chosen xs) cs)
      of true hit is rest = ap (λ l. x ∷ (chosen xs c ++ l)) (skipped x xs (group c) (eqb-true (member x) (group c) hit) cs sorted.0)
      of false miss is rest =
          let none : chosen xs c ≡ [] = none_chosen xs c (above_all (group c) (member x) xs (any_above (group c) (member x) cs sorted.0 is) later) in
          ap (λ l. l ++ flat_map (chosen (x ∷ xs)) cs) none ∙ (rest is ∙ ap (λ l. x ∷ (l ++ flat_map (chosen xs) cs)) (sym none))

  no_entries : (cs : List C) → flat_map (chosen []) cs ≡ []
  no_entries [] = refl
  no_entries (c ∷ cs) = no_entries cs

  -- the second numbers decide where the first are the same
  pub regrouped : (second : X → ℕ) (cs : List C) (xs : List X) → IsStrictlySortedBy nat_cmp (map group cs)
      → IsStrictlySortedBy pair_cmp (map (λ x. (member x, second x)) xs)
      → AllByRecursion (λ x. list_any (λ c. nat_eq (member x) (group c)) cs ≡ true) xs → flat_map (chosen xs) cs ≡ xs
  unfolding IsStrictlySortedBy
  regrouped second cs [] groups sorted all = no_entries cs
  regrouped second cs (x ∷ xs) groups sorted all =
      prefix x xs (later xs sorted.0) cs groups all.0 ∙ ap (λ l. x ∷ l) (regrouped second cs xs groups sorted.1 all.1)
    where
      later : (ys : List X) → AllByRecursion (λ q. pair_cmp (member x, second x) q ≡ Less) (map (λ y. (member y, second y)) ys)
          → AllByRecursion (λ y. member x ≤ member y) ys
      later [] below = tt
      later (y ∷ ys) below = (pair_less (member x, second x) (member y, second y) below.0, later ys below.1)

-- what holds of all holds of what is found
pub of_found : {X : Type 0} (P : X → Type 0) (test : X → Bool) (xs : List X) (x : X) → AllByRecursion P xs → find test xs ≡ Some x → P x × (test x ≡ true)
of_found P test [] x all is = absurd (cc)
of_found {X} P test (y ∷ ys) x all is = step (test y) refl is (of_found P test ys x all.1)
  where
    step : (b : Bool) → test y ≡ b → cond b (Some y) (find test ys) ≡ Some x → (find test ys ≡ Some x → P x × (test x ≡ true)) → P x × (test x ≡ true)
    step true hit is rest = let e : y ≡ x = cc in subst (λ z. P z × (test z ≡ true)) e (all.0, hit)
    step false miss is rest = rest is

-- and of each number that is in a list
pub of_any : (P : ℕ → Type 0) (n : ℕ) (xs : List ℕ) → AllByRecursion P xs → list_any (nat_eq n) xs ≡ true → P n
of_any P n [] all is = absurd (false≢true is)
of_any P n (x ∷ xs) all is = step (nat_eq n x) refl is (of_any P n xs all.1)
  where
    step : (b : Bool) → nat_eq n x ≡ b → (b || list_any (nat_eq n) xs) ≡ true → (list_any (nat_eq n) xs ≡ true → P n) → P n
    step true hit is rest = subst P (sym (eqb-true n x hit)) all.0
    step false miss is rest = rest is

-- what holds of all holds of those that pass, and they pass
pub of_passed : {X : Type 0} (P : X → Type 0) (test : X → Bool) (xs : List X) → AllByRecursion P xs
    → AllByRecursion (λ x. P x × (test x ≡ true)) (filter test xs)
of_passed P test [] all = tt
of_passed {X} P test (x ∷ xs) all = step (test x) refl (of_passed P test xs all.1)
  where
    step : (b : Bool) → test x ≡ b → AllByRecursion (λ x. P x × (test x ≡ true)) (filter test xs)
        → AllByRecursion (λ x. P x × (test x ≡ true)) (cond b (x ∷ filter test xs) (filter test xs))
    step true hit rest = ((all.0, hit), rest)
    step false miss rest = rest

pub of_each : {X : Type 0} (P Q : X → Type 0) → ((x : X) → P x → Q x) → (xs : List X) → AllByRecursion P xs → AllByRecursion Q xs
of_each P Q then [] all = tt
of_each P Q then (x ∷ xs) all = (then x all.0, of_each P Q then xs all.1)
