-- Sums over the rows of a table, and over parts of parts.
use Rattle.std.proofs.Common.{◌≡◌, ℕ, suc, ◌+◌, Bool, true, false, cond, List, [], ◌∷◌, map, flat_map, refl, ap, subst, ◌∙◌, arith, inl, inr, sum_by, zero-add}
use Rattle.std.{specs.Prelude.{Some}, specs.List.{Contains, enumerate_from, find}, proofs.lemmas.List.Elements.{Contains-append_cases}}
use Rattle.std.proofs.lemmas.{List.Sums.{sum_by-append, sum_by-cons}, Option.{none-some, slice_get-get_or}}
use Rattle.ppdb_values.specs.Ordered.{EachRow}
use Rattle.ppdb_build_canon.proofs.Among.{among_first, among_later}

-- what the rows of a table name has in all the size of the parts of a value
pub rows_sum : {X Y R : Type 0} (size : R → ℕ) (len : X → ℕ) (row : X → Y) (named : ℕ × Y → List R) (n : ℕ) (xs : List X)
    → ((n : ℕ) (x : X) → Contains xs x → sum_by size (named (n, row x)) ≡ len x)
    → sum_by size (flat_map named (enumerate_from n (map row xs))) ≡ sum_by len xs
rows_sum size len row named n [] each = refl
rows_sum size len row named n (x ∷ xs) each =
    let here = each n x (among_first x xs) in
    let later = rows_sum size len row named (n + 1) xs (λ m y is. each m y (among_later x y xs is)) in
    omega (arith, here, later, sum_by-append size (named (n, row x)) (flat_map named (enumerate_from (n + 1) (map row xs))), sum_by-cons len x xs)

-- a sum of one
pub sum_one : {X : Type 0} (len : X → ℕ) (x : X) → sum_by len (x ∷ []) ≡ len x
sum_one len x = zero-add (len x)

-- a sum over what is made of the parts
pub sum_map : {X U : Type 0} (len : U → ℕ) (f : X → U) (xs : List X) → sum_by len (map f xs) ≡ sum_by (λ x. len (f x)) xs
sum_map len f [] = refl
sum_map len f (x ∷ xs) = let rest = sum_map len f xs in omega (arith, rest, sum_by-cons len (f x) (map f xs), sum_by-cons (λ y. len (f y)) x xs)

pub sum_flat : {X U : Type 0} (len : U → ℕ) (f : X → List U) (xs : List X) → sum_by len (flat_map f xs) ≡ sum_by (λ x. sum_by len (f x)) xs
sum_flat len f [] = refl
sum_flat len f (x ∷ xs) =
    let rest = sum_flat len f xs in
    omega (arith, rest, sum_by-append len (f x) (flat_map f xs), sum_by-cons (λ y. sum_by len (f y)) x xs)

-- a sum of two sums
pub sum_both : {X : Type 0} (f g : X → ℕ) (xs : List X) → sum_by (λ x. f x + g x) xs ≡ sum_by f xs + sum_by g xs
sum_both f g [] = refl
sum_both f g (x ∷ xs) = let rest = sum_both f g xs in omega (arith, rest, sum_by-cons (λ y. f y + g y) x xs, sum_by-cons f x xs, sum_by-cons g x xs)

-- ---- elements

pub each_among : {X : Type 0} (P : X → Type 0) (xs : List X) (x : X) → EachRow P xs → Contains xs x → P x
each_among P xs x each (k, inside, same) = each (suc k) x (slice_get-get_or xs k x inside ∙ ap (λ y. Some y) same)

pub each_flat : {X Y : Type 0} (P : Y → Type 0) (f : X → List Y) (xs : List X) → ((x : X) → Contains xs x → (y : Y) → Contains (f x) y → P y)
    → (y : Y) → Contains (flat_map f xs) y → P y
each_flat P f [] all y is = absurd (let inside = is.1 in omega (arith, inside))
each_flat P f (x ∷ xs) all y is = elim (Contains-append_cases (f x) (flat_map f xs) y is) [
  | inl here ↦ all x (among_first x xs) y here
  | inr later ↦ each_flat P f xs (λ z among. all z (among_later x z xs among)) y later
]

-- what is found is there
pub found_among : {X : Type 0} (p : X → Bool) (xs : List X) (x : X) → find p xs ≡ Some x → Contains xs x
found_among p [] x found = absurd (none-some x found)
found_among p (y ∷ ys) x found = by (p y) found (found_among p ys x)
  where
    by : (b : Bool) → cond b (Some y) (find p ys) ≡ Some x → (find p ys ≡ Some x → Contains ys x) → Contains (y ∷ ys) x
    by true is later = let same : y ≡ x = cc in subst (λ z. Contains (y ∷ ys) z) same (among_first y ys)
    by false is later = among_later y x ys (later is)
