-- What a list in order has at the place before which its keys are less.
use Rattle.std.proofs.Common.{zero, suc, inl, inr, ℕ, ◌≡◌, ◌<◌, ◌≤◌, ◌+◌, ◌&&◌, ◌||◌, Bool, true, false, cond, List, [], ◌∷◌, Option, Some, None, length, map, Bor}
use Rattle.std.{proofs.Common.{refl, sym, ap, ◌∙◌, subst, arith}, specs.Prelude.{slice_get, slice_index_or, find, filter, nat_eq, nat_lt, is_some}}
use Rattle.std.specs.{List.{AllByRecursion, list_any}, Cmp.{IsTotalOrder}, List.Sorted.{IsStrictlySortedBy, IsPartitionedBy, IsPartitionPoint}, Ordering.{nat_cmp}}
use Rattle.std.specs.{Ordering.{is_lt}, declared.cmp.Ordering.{Ordering}, declared.cmp.Ordering.TheVariants.{Less, Equal, Greater}}
use Rattle.std.proofs.lemmas.{Bool.{false≢true, cases_lt, le-ltb, lt-ltb, ne_eqb, eq-eqb, ltb-true, ltb-false}, Cmp.{tied_itself, nat_cmp_total, on_total}}
use Rattle.std.{proofs.lemmas.Cmp.{then_total}, proofs.lemmas.Map.Views.{exact_unsigned_eq}, specs.Option.{option_copied}, specs.Slice.{IsItemAt}}
use Rattle.std.proofs.lemmas.{Option.{slice_get_past}, Bool.Decides.{nat_tests}}
use Rattle.ppdb_maps.{specs.Map.{pair_cmp}, specs.Search.{Parted, Grouped}, proofs.Searching.{item_copied}}

-- the item, if it passes
abbrev pub if_passes : {A : Type 0} → (A → Bool) → Option A → Option A
if_passes test None = None
if_passes test (Some x) = cond (test x) (Some x) None

module _ {A : Type 0} (before at : A → Bool) where
  none_there : (x : A) (xs : List A) → before x ≡ false → AllByRecursion (λ y. (at y ≡ true → before x ≡ true) × (before y ≡ true → before x ≡ true)) xs
      → find at xs ≡ None
  none_there x [] later all = refl
  none_there x (y ∷ ys) later all = of (at y) refl (none_there x ys later all.1)
    where
      of : (b : Bool) → at y ≡ b → find at ys ≡ None → find at (y ∷ ys) ≡ None
      of true is rest = absurd (false≢true (sym later ∙ all.0.0 is))
      of false is rest = rw (is, rest) refl

  all_at : (x : A) (ys : List A) (k : ℕ) (d : A) → AllByRecursion (λ y. (at y ≡ true → before x ≡ true) × (before y ≡ true → before x ≡ true)) ys
      → k < length ys
      → before (slice_index_or ys k d) ≡ true → before x ≡ true
  all_at x [] k d all within = absurd (omega arith)
  all_at x (y ∷ ys) zero d all within = all.0.1
  all_at x (y ∷ ys) (suc k) d all within = all_at x ys k d all.1 (omega arith)

  pub partitioned : (xs : List A) → Parted before at xs → IsPartitionedBy before xs
  partitioned [] parted i j d le within is = absurd (omega arith)
  partitioned (x ∷ xs) parted zero zero d le within is = is
  partitioned (x ∷ xs) parted zero (suc j) d le within is = all_at x xs j d parted.1 (omega arith) is
  partitioned (x ∷ xs) parted (suc i) zero d le within is = absurd (omega arith)
  partitioned (x ∷ xs) parted (suc i) (suc j) d le within is = partitioned xs parted.2 i j d (omega arith) (omega arith) is

  -- what is found stands at the place before which all items are before the key
  pub found_there : (xs : List A) (i : ℕ) → Parted before at xs
      → ((k : ℕ) (d : A) → k < i → k < length xs → before (slice_index_or xs k d) ≡ true)
      → ((k : ℕ) (d : A) → i ≤ k → k < length xs → before (slice_index_or xs k d) ≡ false)
      → find at xs ≡ if_passes at (slice_get xs i)
  found_there [] i parted less more = refl
  found_there (x ∷ xs) zero parted less more =
      let later : before x ≡ false = more 0 x (omega arith) (omega arith) in
      rw (none_there x xs later parted.1) refl
  found_there (x ∷ xs) (suc i) parted less more =
      let here : before x ≡ true = less 0 x (omega arith) (omega arith) in
      step (at x) refl here
      (found_there xs i parted.2 (λ k d lt within. less (suc k) d (omega arith) (omega arith))
      (λ k d le within. more (suc k) d (omega arith) (omega arith)))
    where
      step : (b : Bool) → at x ≡ b → before x ≡ true → find at xs ≡ if_passes at (slice_get xs i) → find at (x ∷ xs) ≡ if_passes at (slice_get xs i)
      step true is here rest = absurd (false≢true (sym (parted.0 is) ∙ here))
      step false is here rest = rw is rest

  -- an item at the key is the one that is found
  pub at_there : (xs : List A) (i : ℕ) (x : A) → Parted before at xs → slice_get xs i ≡ Some x → at x ≡ true → find at xs ≡ Some x
  at_there [] i x parted is here = absurd (cc)
  at_there (y ∷ ys) zero x parted is here = let e : y ≡ x = some_same y x is in rw (e, here) refl
    where
      some_same : (y x : A) → Some y ≡ Some x → y ≡ x
      some_same y x e = ap (λ o. elim o [ None ↦ y | Some z ↦ z ]) e
  at_there (y ∷ ys) (suc i) x parted is here = of (at y) refl (at_there ys i x parted.2 is here)
    where
      before_y : (zs : List A) (k : ℕ) → AllByRecursion (λ z. (at z ≡ true → before y ≡ true) × (before z ≡ true → before y ≡ true)) zs
          → slice_get zs k ≡ Some x → before y ≡ true
      before_y [] k all at_k = absurd (cc)
      before_y (z ∷ zs) zero all at_k = all.0.0 (ap (λ o. elim o [ None ↦ true | Some w ↦ at w ]) at_k ∙ here)
      before_y (z ∷ zs) (suc k) all at_k = before_y zs k all.1 at_k

      of : (b : Bool) → at y ≡ b → find at ys ≡ Some x → find at (y ∷ ys) ≡ Some x
      of true is_y rest = absurd (false≢true (sym (parted.0 is_y) ∙ before_y ys i parted.1 is))
      of false is_y rest = rw is_y rest

-- a list that strictly ascends by its keys is parted
module _ {A K : Type 0} {R : K → K → Ordering} (o : IsTotalOrder R) (key : A → K) (k : K) (before at : A → Bool)
    (is_before : (x : A) → before x ≡ is_lt (R (key x) k)) (is_at : (x : A) → at x ≡ true → key x ≡ k) where
  is_less : (r : Ordering) → is_lt r ≡ true → r ≡ Less
  is_less Less is = refl
  is_less Equal is = absurd (false≢true is)
  is_less Greater is = absurd (false≢true is)

  less_is : (x : K) → R x k ≡ Less → is_lt (R x k) ≡ true
  less_is x less = rw less refl

  all_less : (x : A) (xs : List A) → AllByRecursion (λ y. R (key x) y ≡ Less) (map key xs)
      → AllByRecursion (λ y. (at y ≡ true → before x ≡ true) × (before y ≡ true → before x ≡ true)) xs
  all_less x [] all = tt
  all_less x (y ∷ ys) all = (
    (
      (λ is. is_before x ∙ less_is (key x) (subst (λ q. R (key x) q ≡ Less) (is_at y is) all.0)),
      (λ is. is_before x ∙ less_is (key x) (o.trans (key x) (key y) k all.0 (is_less (R (key y) k) (sym (is_before y) ∙ is)))),
    ),
    all_less x ys all.1,
  )

  pub parted : (xs : List A) → IsStrictlySortedBy R (map key xs) → Parted before at xs
  unfolding IsStrictlySortedBy
  parted [] rise = tt
  parted (x ∷ xs) rise =
      ((λ is. is_before x ∙ (rw (is_at x is, tied_itself o k) refl)), all_less x xs rise.0, parted xs rise.1)

-- the same of an item that `get` lends
pub found_lent : {A : Type 0} (before at : A → Bool) (xs : List A) (i : ℕ) (r : Option (Bor A)) → IsItemAt xs i r → Parted before at xs
    → (IsPartitionedBy before xs → IsPartitionPoint (λ y. before y ≡ true) (λ y. before y ≡ false) xs i)
    → find at xs ≡ if_passes at (option_copied r)
found_lent before at xs i r item parted_list point =
    let p = point (partitioned before at xs parted_list) in
    found_there before at xs i parted_list (λ k d lt within. p.0 k d (omega arith) lt) (λ k d le within. p.1 k d le within)
    ∙ ap (if_passes at) (sym (item_copied xs i r item))

-- a list that ascends by a number, and one that ascends by two
pub by_number : {A : Type 0} (key : A → ℕ) (k : ℕ) (xs : List A) → IsStrictlySortedBy nat_cmp (map key xs)
    → Parted (λ x. nat_lt (key x) k) (λ x. nat_eq (key x) k) xs
by_number {A} key k xs rise =
    parted nat_cmp_total key k (λ x. nat_lt (key x) k) (λ x. nat_eq (key x) k) (λ x. below (key x) k) (λ x is. exact_unsigned_eq (key x) k is) xs rise
  where
    below : (a b : ℕ) → nat_lt a b ≡ is_lt (nat_cmp a b)
    below a b = grind (arith, nat_tests)

pub by_pair : {A : Type 0} (first second : A → ℕ) (a b : ℕ) (xs : List A) → IsStrictlySortedBy pair_cmp (map (λ x. (first x, second x)) xs)
    → Parted (λ x. nat_lt (first x) a || (nat_eq (first x) a && nat_lt (second x) b)) (λ x. nat_eq (first x) a && nat_eq (second x) b) xs
by_pair {A} first second a b xs rise =
    parted pair_cmp_total (λ x. (first x, second x)) (a, b) (λ x. nat_lt (first x) a || (nat_eq (first x) a && nat_lt (second x) b))
    (λ x. nat_eq (first x) a && nat_eq (second x) b)
    (λ x. below (first x) (second x) a b) (λ x is. same (first x) (second x) is) xs rise
  where
    pair_cmp_total : IsTotalOrder pair_cmp
    pair_cmp_total = then_total (on_total (λ (p : ℕ × ℕ). p.0) nat_cmp_total) (on_total (λ (p : ℕ × ℕ). p.1) nat_cmp_total)

    below : (x y a b : ℕ) → (nat_lt x a || (nat_eq x a && nat_lt y b)) ≡ is_lt (pair_cmp (x, y) (a, b))
    below x y a b = grind (arith, nat_tests)

    both : (p q : Bool) → (p && q) ≡ true → (p ≡ true) × (q ≡ true)
    both true q is = (refl, is)
    both false q is = absurd (false≢true is)

    same : (x y : ℕ) → (nat_eq x a && nat_eq y b) ≡ true → ◌≡◌ {A = ℕ × ℕ} (x, y) (a, b)
    same x y is = let h = both (nat_eq x a) (nat_eq y b) is in let e : x ≡ a = exact_unsigned_eq x a h.0 in let f : y ≡ b = exact_unsigned_eq y b h.1 in cc

map_itself : (xs : List ℕ) → map (λ (x : ℕ). x) xs ≡ xs
map_itself [] = refl
map_itself (x ∷ xs) = ap (λ ys. x ∷ ys) (map_itself xs)

pub by_itself : (k : ℕ) (xs : List ℕ) → IsStrictlySortedBy nat_cmp xs → Parted (λ x. nat_lt x k) (λ x. nat_eq x k) xs
by_itself k xs rise = by_number (λ (x : ℕ). x) k xs (subst (λ ys. IsStrictlySortedBy nat_cmp ys) (sym (map_itself xs)) rise)

-- a number that is found is in the list
pub any_found : (n : ℕ) (xs : List ℕ) → is_some (find (λ x. nat_eq x n) xs) ≡ list_any (nat_eq n) xs
any_found n [] = refl
any_found n (x ∷ xs) = of (nat_eq x n) refl (any_found n xs)
  where
    turned : nat_eq n x ≡ nat_eq x n
    turned = grind (arith, nat_tests)

    of : (b : Bool) → nat_eq x n ≡ b → is_some (find (λ y. nat_eq y n) xs) ≡ list_any (nat_eq n) xs
        → is_some (find (λ y. nat_eq y n) (x ∷ xs)) ≡ list_any (nat_eq n) (x ∷ xs)
    of true is rest = rw (turned, is) refl
    of false is rest = rw (turned, is) rest

pub some_lent : {A : Type 0} (r : Option (Bor A)) → is_some (option_copied r) ≡ is_some r
some_lent None = refl
some_lent (Some x) = refl

-- ---- a list with the items of a key next to each other

module _ {A : Type 0} (before at : A → Bool) where
  -- nothing after an item that is neither before the key nor at it is at it
  rest_apart : (x : A) (xs : List A) → before x ≡ false → at x ≡ false
      → AllByRecursion (λ y. (before y ≡ true → before x ≡ true) × (at y ≡ true → before x ≡ false → at x ≡ true)) xs
      → (n : ℕ) → (filter at xs ≡ []) × (if_passes at (slice_get xs n) ≡ None)
  rest_apart x [] later other all n = (refl, refl)
  rest_apart x (y ∷ ys) later other all n = of (at y) refl (λ m. rest_apart x ys later other all.1 m) n
    where
      of : (b : Bool) → at y ≡ b → ((m : ℕ) → (filter at ys ≡ []) × (if_passes at (slice_get ys m) ≡ None)) → (n : ℕ) → (filter at (y ∷ ys) ≡ [])
          × (if_passes at (slice_get (y ∷ ys) n) ≡ None)
      of true is rest n = absurd (false≢true (sym other ∙ all.0.1 is later))
      of false is rest zero = (rw is (rest 0).0, rw is refl)
      of false is rest (suc n) = (rw is (rest n).0, (rest n).1)

  -- the items at the key stand in a row from the place before which all items are before it
  pub nth_there : (xs : List A) (i n j : ℕ) → j ≡ i + n → Grouped before at xs
      → ((k : ℕ) (d : A) → k < i → k < length xs → before (slice_index_or xs k d) ≡ true)
      → ((k : ℕ) (d : A) → i ≤ k → k < length xs → before (slice_index_or xs k d) ≡ false)
      → slice_get (filter at xs) n ≡ if_passes at (slice_get xs j)
  nth_there [] i n j sum grouped less more = refl
  nth_there (x ∷ xs) (suc i) n zero sum grouped less more = absurd (omega arith)
  nth_there (x ∷ xs) (suc i) n (suc j) sum grouped less more =
      step (at x) refl (less 0 x (omega arith) (omega arith))
      (nth_there xs i n j (omega arith) grouped.2 (λ k d lt within. less (suc k) d (omega arith) (omega arith))
      (λ k d le within. more (suc k) d (omega arith) (omega arith)))
    where
      step : (b : Bool) → at x ≡ b → before x ≡ true → slice_get (filter at xs) n ≡ if_passes at (slice_get xs j)
          → slice_get (filter at (x ∷ xs)) n ≡ if_passes at (slice_get xs j)
      step true is here rest = absurd (false≢true (sym (grouped.0 is) ∙ here))
      step false is here rest = rw is rest
  nth_there (x ∷ xs) zero zero zero sum grouped less more = step (at x) refl (more 0 x (omega arith) (omega arith))
    where
      step : (b : Bool) → at x ≡ b → before x ≡ false → slice_get (filter at (x ∷ xs)) 0 ≡ if_passes at (Some x)
      step true is later = rw is refl
      step false is later = rw (is, (rest_apart x xs later is grouped.1 0).0) refl
  nth_there (x ∷ xs) zero zero (suc j) sum grouped less more = absurd (omega arith)
  nth_there (x ∷ xs) zero (suc n) zero sum grouped less more = absurd (omega arith)
  nth_there (x ∷ xs) zero (suc n) (suc j) sum grouped less more =
      step (at x) refl (more 0 x (omega arith) (omega arith))
      (nth_there xs 0 n j (omega arith) grouped.2 (λ k d lt within. absurd (omega arith)) (λ k d le within. more (suc k) d (omega arith) (omega arith)))
    where
      step : (b : Bool) → at x ≡ b → before x ≡ false → slice_get (filter at xs) n ≡ if_passes at (slice_get xs j)
          → slice_get (filter at (x ∷ xs)) (suc n) ≡ if_passes at (slice_get xs j)
      step true is later rest = rw is rest
      step false is later rest = let h = rest_apart x xs later is grouped.1 j in rw (is, h.0) (sym h.1)

  pub grouped_by : (xs : List A) → Grouped before at xs → IsPartitionedBy before xs
  grouped_by [] grouped i j d le within is = absurd (omega arith)
  grouped_by (x ∷ xs) grouped zero zero d le within is = is
  grouped_by (x ∷ xs) grouped zero (suc j) d le within is = all_before x xs j d grouped.1 (omega arith) is
    where
      all_before : (x : A) (ys : List A) (k : ℕ) (d : A)
          → AllByRecursion (λ y. (before y ≡ true → before x ≡ true) × (at y ≡ true → before x ≡ false → at x ≡ true)) ys → k < length ys
          → before (slice_index_or ys k d) ≡ true → before x ≡ true
      all_before x [] k d all within = absurd (omega arith)
      all_before x (y ∷ ys) zero d all within = all.0.0
      all_before x (y ∷ ys) (suc k) d all within = all_before x ys k d all.1 (omega arith)
  grouped_by (x ∷ xs) grouped (suc i) zero d le within is = absurd (omega arith)
  grouped_by (x ∷ xs) grouped (suc i) (suc j) d le within is = grouped_by xs grouped.2 i j d (omega arith) (omega arith) is

-- the same of an item that `get` lends
pub nth_lent : {A : Type 0} (before at : A → Bool) (xs : List A) (i n place : ℕ) (r : Option (Bor A)) → place ≡ i + n → IsItemAt xs place r
    → Grouped before at xs
    → (IsPartitionedBy before xs → IsPartitionPoint (λ y. before y ≡ true) (λ y. before y ≡ false) xs i)
    → slice_get (filter at xs) n ≡ if_passes at (option_copied r)
nth_lent before at xs i n place r is item grouped point =
    let p = point (grouped_by before at xs grouped) in
    nth_there before at xs i n place is grouped (λ k d lt within. p.0 k d (omega arith) lt) (λ k d le within. p.1 k d le within)
    ∙ ap (if_passes at) (sym (item_copied xs place r item))

-- there is none past the end of the list
pub nth_past : {A : Type 0} (before at : A → Bool) (xs : List A) (i n : ℕ) → length xs ≤ i + n → Grouped before at xs
    → (IsPartitionedBy before xs → IsPartitionPoint (λ y. before y ≡ true) (λ y. before y ≡ false) xs i)
    → slice_get (filter at xs) n ≡ None
nth_past before at xs i n past grouped point =
    let p = point (grouped_by before at xs grouped) in
    nth_there before at xs i n (i + n) refl grouped (λ k d lt within. p.0 k d (omega arith) lt) (λ k d le within. p.1 k d le within)
    ∙ ap (if_passes at) (slice_get_past xs (i + n) past)

-- a list that ascends by two numbers has the items of a first number next to each other
pub by_first : {A : Type 0} (first second : A → ℕ) (a : ℕ) (xs : List A) → IsStrictlySortedBy pair_cmp (map (λ x. (first x, second x)) xs)
    → Grouped (λ x. nat_lt (first x) a) (λ x. nat_eq (first x) a) xs
unfolding IsStrictlySortedBy
by_first first second a [] rise = tt
by_first {A} first second a (x ∷ xs) rise = ((λ is. apart (first x) is), later x xs rise.0, by_first first second a xs rise.1)
  where
    apart : (n : ℕ) → nat_eq n a ≡ true → nat_lt n a ≡ false
    apart n is = let e : n ≡ a = exact_unsigned_eq n a is in le-ltb n a (omega (arith, e))

    not_above : (x y u v : ℕ) → pair_cmp (x, u) (y, v) ≡ Less → x ≤ y
    not_above x y u v less = elim (cases_lt y x) [ inl above ↦ absurd (clash x y u v above less) | inr le ↦ le ]
      where
        clash : (x y u v : ℕ) → y < x → pair_cmp (x, u) (y, v) ≡ Less → ⊥
        clash x y u v above less = let e : Greater ≡ Less = rw (le-ltb x y (omega (arith, above)), ne_eqb x y (λ e. omega (arith, above, e))) at less in cc

    later : (x : A) (ys : List A) → AllByRecursion (λ p. pair_cmp (first x, second x) p ≡ Less) (map (λ y. (first y, second y)) ys)
        → AllByRecursion (λ y. (nat_lt (first y) a ≡ true → nat_lt (first x) a ≡ true)
        × (nat_eq (first y) a ≡ true → nat_lt (first x) a ≡ false → nat_eq (first x) a ≡ true)) ys
    later x [] all = tt
    later x (y ∷ ys) all =
        let le = not_above (first x) (first y) (second x) (second y) all.0 in (
          (
            (λ is. let h = ltb-true (first y) a is in lt-ltb (first x) a (omega (arith, h, le))),
            (λ is above. let e = exact_unsigned_eq (first y) a is in let h = ltb-false (first x) a above in eq-eqb (first x) a (omega (arith, e, h, le))),
          ),
          later x ys all.1,
        )
