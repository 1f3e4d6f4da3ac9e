-- Facts about rows by their numbers, and about the items of a list by their places.
use Rattle.std.proofs.Common.{◌≡◌, ℕ, Bool, zero, suc, ◌<◌, ◌≤◌, List, length, get_or, map, take, refl, sym, subst, arith, inl, inr, ◌↔◌, IsTrue, true, false}
use Rattle.std.{specs.Prelude.{All, AllPairs, Some}, proofs.lemmas.Bool.{cases_lt}, proofs.lemmas.List.{get_or-map, get_or-take, length-map, length-take}}
use Rattle.std.proofs.lemmas.Option.{get_or_from_slice_get, slice_get-get_or, slice_get_cases, slice_get_within}
use Rattle.ppdb_tables.specs.RawTables.{row_at}
use Rattle.ppdb_values.specs.Ordered.{EachRow, EachPair, IsSorted, Rises}

-- an answer that says no
pub says_no : {P : Type 0} → (P → ⊥) → IsTrue false ↔ P
says_no not = ((λ wrong. let w : false ≡ true = wrong in cc), (λ holds. absurd (not holds)))

-- an answer about one fact is one about another that comes to the same
pub answers : {P Q : Type 0} {answer : Type 0} → answer ↔ P → P ↔ Q → answer ↔ Q
answers a same = ((λ yes. same.0 (a.0 yes)), (λ holds. a.1 (same.1 holds)))

-- what a test that says no refutes
pub refuted : {P : Type 0} (answer : Bool) → IsTrue answer ↔ P → answer ≡ false → P → ⊥
refuted answer decides denied holds = let yes : answer ≡ true = decides.1 holds in cc

module _ {X : Type 0} (P : X → Type 0) (xs : List X) where
  -- what holds of all items that are taken, where all are
  pub all_taken : (n : ℕ) → length xs ≤ n → All P (take n xs) → All P xs
  all_taken n whole all k d inside = subst P (get_or-take n xs k d (omega arith)) (all k d (omega (arith, length-take n xs)))

  -- an item of which it does not hold
  pub not_all : (i : ℕ) (x : X) → i < length xs → x ≡ get_or xs i x → (P x → ⊥) → All P xs → ⊥
  not_all i x inside is not all = not (subst P (sym is) (all i x inside))

module _ {X : Type 0} (xs : List X) where
  -- a row is an item
  item_of_row : (row : ℕ) (x : X) → row_at xs row ≡ Some x → (i : ℕ) × (row ≡ suc i) × (i < length xs) × (get_or xs i x ≡ x)
  item_of_row zero x here = cc
  item_of_row (suc i) x here = (i, refl, slice_get_within xs i x here, get_or_from_slice_get xs i x x here)

  pub each_row : (P : X → Type 0) → All P xs ↔ EachRow P xs
  each_row P = (
    (λ all row x here. let r = item_of_row row x here in subst P r.3 (all r.0 x r.2)),
    (λ each i d inside. each (suc i) (get_or xs i d) (slice_get-get_or xs i d inside)),
  )

  pub each_pair : (R : X → X → Type 0) → AllPairs R xs ↔ EachPair R xs
  each_pair R = (
    (λ all a b x y ax by lt.
        let p = item_of_row a x ax in
        let q = item_of_row b y by in
        let y_there : get_or xs q.0 x ≡ y =
        get_or_from_slice_get xs q.0 y x (let r : row_at xs (suc q.0) ≡ Some y = subst (λ n. row_at xs n ≡ Some y) q.1 by in r) in
        subst (λ v. R v y) p.3 (subst (λ v. R (get_or xs p.0 x) v) y_there (all p.0 q.0 x (let e = p.1 in let f = q.1 in omega (arith, e, f, lt)) q.2))),
    (λ each i j d lt inside. each (suc i) (suc j) (get_or xs i d) (get_or xs j d) (slice_get-get_or xs i d (omega arith)) (slice_get-get_or xs j d inside)
        (omega arith)),
  )

  module _ (key : X → ℕ) where
    -- the key of an item
    key_at : (i : ℕ) (d : X) → i < length xs → get_or (map key xs) i 0 ≡ key (get_or xs i d)
    key_at i d inside = get_or-map key xs i d 0 inside

    -- there is an item at a place
    item_at : (i : ℕ) → i < length (map key xs) → X × (i < length xs)
    item_at i inside =
        let short : i < length xs = omega (arith, inside, length-map xs key) in
        elim (slice_get_cases xs i).1 [
          | inl x ↦ (x.0, short)
          | inr past ↦ absurd (omega (arith, past.0, short))
        ]

    pub rises : AllPairs (λ a b. key a < key b) xs ↔ Rises (map key xs)
    rises = (
      (λ all i j lt inside.
          let x = item_at j inside in
          let short = x.1 in
          rw (key_at i x.0 (omega (arith, lt, short)), key_at j x.0 short) (all i j x.0 lt short)),
      (λ rise i j d lt inside.
          let r = rise i j lt (omega (arith, inside, length-map xs key)) in
          rw (key_at i d (omega (arith, lt, inside)), key_at j d inside) at r),
    )

    pub sorted : AllPairs (λ a b. key a ≤ key b) xs ↔ IsSorted (map key xs)
    sorted = (
      (λ all i j le inside. elim (cases_lt i j) [
        | inl lt ↦
            let x = item_at j inside in
            let short = x.1 in
            rw (key_at i x.0 (omega (arith, lt, short)), key_at j x.0 short) (all i j x.0 lt short)
        | inr ge ↦ let e : i ≡ j = omega (arith, le, ge) in rw e (omega arith)
      ]),
      (λ rise i j d lt inside.
          let r = rise i j (omega (arith, lt)) (omega (arith, inside, length-map xs key)) in
          rw (key_at i d (omega (arith, lt, inside)), key_at j d inside) at r),
    )
