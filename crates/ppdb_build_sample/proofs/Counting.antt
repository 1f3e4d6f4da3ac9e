-- Lists made of the numbers from 1 on, one number more.
use Rattle.std.proofs.Common.{◌≡◌, ℕ, zero, suc, ◌+◌, ◌++◌, Bool, true, false, List, [], ◌∷◌, map, flat_map, refl, sym, ◌∙◌, ap, arith, append-nil, append_assoc}
use Rattle.std.{specs.List.{filter, range_with_len}, proofs.lemmas.List.{map-append}, proofs.lemmas.List.Elements.{filter-append}}
use Rattle.std.proofs.lemmas.List.FromFn.{map-range_with_len_more}
use Rattle.ppdb_merge_joined.proofs.Placed.{flat_append}

last_number : (a n : ℕ) → range_with_len a (suc n) ≡ range_with_len a n ++ (a + n) ∷ []
last_number a zero = let e : a ≡ a + 0 = omega arith in ap (λ k. k ∷ []) e
last_number a (suc n) =
    let e : a + 1 + n ≡ a + suc n = omega arith in ap (λ l. a ∷ l) (last_number (a + 1) n ∙ ap (λ k. range_with_len (a + 1) n ++ k ∷ []) e)

more_numbers : (i : ℕ) → range_with_len 1 (i + 1) ≡ range_with_len 1 i ++ (i + 1) ∷ []
more_numbers i =
    let many : i + 1 ≡ suc i = omega arith in
    let last : 1 + i ≡ i + 1 = omega arith in
    ap (range_with_len 1) many ∙ last_number 1 i ∙ ap (λ k. range_with_len 1 i ++ k ∷ []) last

pub one_more : {A : Type 0} (f : ℕ → A) (old new : List A) (x : A) (i : ℕ) → old ≡ map f (range_with_len 1 i) → x ≡ f (i + 1) → new ≡ old ++ x ∷ []
    → new ≡ map f (range_with_len 1 (i + 1))
one_more f old new x i are same is =
    is ∙ ap (λ l. l ++ x ∷ []) are ∙ ap (λ y. map f (range_with_len 1 i) ++ y ∷ []) same ∙ sym (map-range_with_len_more f 1 i (i + 1) (omega arith))

pub two_more : {A : Type 0} (f g : ℕ → A) (old between new : List A) (x y : A) (i : ℕ)
    → old ≡ flat_map (λ k. f k ∷ g k ∷ []) (range_with_len 1 i) → x ≡ f (i + 1) → y ≡ g (i + 1) → between ≡ old ++ x ∷ [] → new ≡ between ++ y ∷ []
    → new ≡ flat_map (λ k. f k ∷ g k ∷ []) (range_with_len 1 (i + 1))
two_more {A} f g old between new x y i are first second is also =
    also ∙ ap (λ l. l ++ y ∷ []) is ∙ append_assoc old (x ∷ []) (y ∷ []) ∙ ap (λ l. l ++ x ∷ y ∷ []) are
    ∙ ap (λ z. flat_map both (range_with_len 1 i) ++ z ∷ y ∷ []) first ∙ ap (λ z. flat_map both (range_with_len 1 i) ++ f (i + 1) ∷ z ∷ []) second
    ∙ sym (ap (flat_map both) (more_numbers i) ∙ flat_append both (range_with_len 1 i) (i + 1))
  where
    both : ℕ → List A
    both k = f k ∷ g k ∷ []

module _ {A : Type 0} (f : ℕ → A) (p : ℕ → Bool) (i : ℕ) where
  passed : filter p (range_with_len 1 (i + 1)) ≡ filter p (range_with_len 1 i) ++ filter p ((i + 1) ∷ [])
  passed = ap (filter p) (more_numbers i) ∙ filter-append p (range_with_len 1 i) ((i + 1) ∷ [])

  pub none_more : (old : List A) → p (i + 1) ≡ false → old ≡ map f (filter p (range_with_len 1 i)) → old ≡ map f (filter p (range_with_len 1 (i + 1)))
  none_more old fails are = are ∙ sym (ap (map f) (passed ∙ alone))
    where
      alone : filter p (range_with_len 1 i) ++ filter p ((i + 1) ∷ []) ≡ filter p (range_with_len 1 i)
      alone = rw fails (append-nil (filter p (range_with_len 1 i)))

  pub passes_more : (old new : List A) (x : A) → p (i + 1) ≡ true → old ≡ map f (filter p (range_with_len 1 i)) → x ≡ f (i + 1) → new ≡ old ++ x ∷ []
      → new ≡ map f (filter p (range_with_len 1 (i + 1)))
  passes_more old new x is are same more =
      more ∙ ap (λ l. l ++ x ∷ []) are ∙ ap (λ y. map f (filter p (range_with_len 1 i)) ++ y ∷ []) same
      ∙ sym (ap (map f) (passed ∙ with_it) ∙ map-append f (filter p (range_with_len 1 i)) ((i + 1) ∷ []))
    where
      with_it : filter p (range_with_len 1 i) ++ filter p ((i + 1) ∷ []) ≡ filter p (range_with_len 1 i) ++ (i + 1) ∷ []
      with_it = rw is refl
