-- The items of a heap, and their indexes.
use Rattle.std.proofs.Common.{◌≡◌, ℕ, Bool, true, false, cond, not, List, [], ◌∷◌, ◌++◌, ◌||◌, length, drop, flat_map, sum_by, refl, sym, ap, ◌∙◌, true≢false}
use Rattle.std.proofs.{Common.{append_assoc, bytes_eq, if◌then◌else◌}, lemmas.List.{append-nil, drop_at}, lemmas.List.Sums.{take_while-cons}}
use Rattle.std.{proofs.lemmas.List.Concat.{flat_map-append, length-flat_map}, specs.List.{list_any, before_first}, specs.Cmp.Lexicographic.{bytes_decides}}
use Rattle.ppdb_build_heaps.specs.Items.{with_use, index_of}

-- an item that is there: what stands before its first place, and what after it
pub record StandsIn (p : List ℕ → Bool) (items : List (List ℕ)) (item : List ℕ) : Type 0 where
  pub after : List (List ℕ)
  pub split : items ≡ before_first p items ++ item ∷ after

module _ (p : List ℕ → Bool) where
  pub before-yes : (x : List ℕ) (xs : List (List ℕ)) → p x ≡ true → before_first p (x ∷ xs) ≡ []
  before-yes x xs e = take_while-cons (λ y. not (p y)) x xs ∙ ap (λ b. cond (not b) (x ∷ before_first p xs) []) e

  pub before-no : (x : List ℕ) (xs : List (List ℕ)) → p x ≡ false → before_first p (x ∷ xs) ≡ x ∷ before_first p xs
  before-no x xs e = take_while-cons (λ y. not (p y)) x xs ∙ ap (λ b. cond (not b) (x ∷ before_first p xs) []) e

  -- what stands after an item that is there changes nothing
  pub before-stable : (xs ys : List (List ℕ)) → list_any p xs ≡ true → before_first p (xs ++ ys) ≡ before_first p xs
  before-stable [] ys h = absurd (true≢false (sym h))
  before-stable (x ∷ xs) ys h = by (p x) refl (before-stable xs ys)
    where
      by : (b : Bool) → p x ≡ b → (list_any p xs ≡ true → before_first p (xs ++ ys) ≡ before_first p xs)
          → before_first p (x ∷ xs ++ ys) ≡ before_first p (x ∷ xs)
      by true e rest = before-yes x (xs ++ ys) e ∙ sym (before-yes x xs e)
      by false e rest = before-no x (xs ++ ys) e ∙ ap (λ r. x ∷ r) (rest (sym (ap (λ b. b || list_any p xs) e) ∙ h)) ∙ sym (before-no x xs e)

  -- an item that was not there stands after all that are
  pub before-new : (xs : List (List ℕ)) (y : List ℕ) (ys : List (List ℕ)) → list_any p xs ≡ false → p y ≡ true → before_first p (xs ++ y ∷ ys) ≡ xs
  before-new [] y ys h at = before-yes y ys at
  before-new (x ∷ xs) y ys h at = by (p x) refl (λ none. before-new xs y ys none at)
    where
      by : (b : Bool) → p x ≡ b → (list_any p xs ≡ false → before_first p (xs ++ y ∷ ys) ≡ xs) → before_first p (x ∷ xs ++ y ∷ ys) ≡ x ∷ xs
      by true e rest = absurd (true≢false (sym (ap (λ b. b || list_any p xs) e) ∙ h))
      by false e rest = before-no x (xs ++ y ∷ ys) e ∙ ap (λ r. x ∷ r) (rest (sym (ap (λ b. b || list_any p xs) e) ∙ h))

-- an item that is there stands after what is before its first place
pub there : (items : List (List ℕ)) (item : List ℕ) → list_any (bytes_eq item) items ≡ true → StandsIn (bytes_eq item) items item
there [] item h = absurd (true≢false (sym h))
there (x ∷ xs) item h = by (bytes_eq item x) refl (there xs item)
  where
    by : (b : Bool) → bytes_eq item x ≡ b → (list_any (bytes_eq item) xs ≡ true → StandsIn (bytes_eq item) xs item) → StandsIn (bytes_eq item) (x ∷ xs) item
    by true e rest = record {
      after = xs;
      split = ap (λ y. y ∷ xs) (sym ((bytes_decides item x).0 e)) ∙ ap (λ before. before ++ item ∷ xs) (sym (before-yes (bytes_eq item) x xs e));
    }
    by false e rest = let stands = rest (sym (ap (λ b. b || list_any (bytes_eq item) xs) e) ∙ h) in record {
      after = stands.after;
      split = ap (λ r. x ∷ r) stands.split ∙ ap (λ before. before ++ item ∷ stands.after) (sym (before-no (bytes_eq item) x xs e));
    }

pub itself : (item : List ℕ) → bytes_eq item item ≡ true
itself item = (bytes_decides item item).1 refl

module _ (spelled : List ℕ → List ℕ) where
  -- more items move no index of an item that is there
  pub index-stable : (items more : List (List ℕ)) (item : List ℕ) → list_any (bytes_eq item) items ≡ true
      → index_of spelled (items ++ more) item ≡ index_of spelled items item
  index-stable items more item h = ap (sum_by (λ other. length (spelled other))) (before-stable (bytes_eq item) items more h)

  -- a new item's index is the length of the heap
  pub index-new : (items : List (List ℕ)) (item : List ℕ) → list_any (bytes_eq item) items ≡ false
      → index_of spelled (items ++ item ∷ []) item ≡ sum_by (λ other. length (spelled other)) items
  index-new items item h = ap (sum_by (λ other. length (spelled other))) (before-new (bytes_eq item) items item [] h (itself item))

  -- at an item's index the heap goes on with the item, whatever stands after the heap
  pub at_index : (items : List (List ℕ)) (item tail : List ℕ) → list_any (bytes_eq item) items ≡ true
      → (rest : List ℕ) × (drop (index_of spelled items item) (flat_map spelled items ++ tail) ≡ spelled item ++ rest)
  at_index items item tail h =
      let stands = there items item h in
      let before = before_first (bytes_eq item) items in (
        flat_map spelled stands.after ++ tail,
        ap (λ all. drop (index_of spelled items item) (all ++ tail)) (ap (flat_map spelled) stands.split ∙ flat_map-append spelled before (item ∷ stands.after))
            ∙ ap (drop (index_of spelled items item)) (append_assoc (flat_map spelled before) (spelled item ++ flat_map spelled stands.after) tail)
            ∙ drop_at (flat_map spelled before) (spelled item ++ flat_map spelled stands.after ++ tail) (index_of spelled items item)
            (length-flat_map spelled before)
            ∙ append_assoc (spelled item) (flat_map spelled stands.after) tail,
      )

-- one more use leaves the items that are there, and adds at most itself
pub with_use-adds : (items : List (List ℕ)) (item : List ℕ) → (more : List (List ℕ)) × (with_use items item ≡ items ++ more)
with_use-adds items item = by (list_any (bytes_eq item) items)
  where
    by : (b : Bool) → (more : List (List ℕ)) × ((if b then items else items ++ item ∷ []) ≡ items ++ more)
    by true = ([], sym (append-nil items))
    by false = (item ∷ [], refl)

list_any-append : (p : List ℕ → Bool) (xs ys : List (List ℕ)) → list_any p xs ≡ true → list_any p (xs ++ ys) ≡ true
list_any-append p [] ys h = absurd (true≢false (sym h))
list_any-append p (x ∷ xs) ys h = by (p x) refl (list_any-append p xs ys)
  where
    by : (b : Bool) → p x ≡ b → (list_any p xs ≡ true → list_any p (xs ++ ys) ≡ true) → list_any p (x ∷ xs ++ ys) ≡ true
    by true e rest = ap (λ b. b || list_any p (xs ++ ys)) e
    by false e rest = ap (λ b. b || list_any p (xs ++ ys)) e ∙ rest (sym (ap (λ b. b || list_any p xs) e) ∙ h)

pub list_any-last : (p : List ℕ → Bool) (xs : List (List ℕ)) (x : List ℕ) → p x ≡ true → list_any p (xs ++ x ∷ []) ≡ true
list_any-last p [] x h = ap (λ b. b || false) h
list_any-last p (y ∷ ys) x h = by (p y) refl (list_any-last p ys x h)
  where
    by : (b : Bool) → p y ≡ b → list_any p (ys ++ x ∷ []) ≡ true → list_any p (y ∷ ys ++ x ∷ []) ≡ true
    by true e rest = ap (λ b. b || list_any p (ys ++ x ∷ [])) e
    by false e rest = ap (λ b. b || list_any p (ys ++ x ∷ [])) e ∙ rest

-- what is used is there, and stays there
pub used-there : (items : List (List ℕ)) (item : List ℕ) → list_any (bytes_eq item) (with_use items item) ≡ true
used-there items item = by (list_any (bytes_eq item) items) refl
  where
    by : (b : Bool) → list_any (bytes_eq item) items ≡ b → list_any (bytes_eq item) (if b then items else items ++ item ∷ []) ≡ true
    by true e = e
    by false e = list_any-last (bytes_eq item) items item (itself item)

pub stays-there : (items more : List (List ℕ)) (item : List ℕ) → list_any (bytes_eq item) items ≡ true → list_any (bytes_eq item) (items ++ more) ≡ true
stays-there items more item h = list_any-append (bytes_eq item) items more h
