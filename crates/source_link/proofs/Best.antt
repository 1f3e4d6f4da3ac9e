-- The pair that is chosen is the best of those that match.
use Rattle.std.proofs.Common.{◌≡◌, ℕ, ◌<◌, ◌∙◌, ap, Bool, true, false, cond, List, [], ◌∷◌, Some, None, refl, sym, subst, arith, zero, suc, length}
use Rattle.std.specs.{Prelude.{Contains}, List.{filter, find, list_all, slice_index_or}, Ordering.{is_le, is_gt, is_eq, ordering_then, ordering_reverse, nat_cmp}}
use Rattle.std.specs.{Ordering.{bool_cmp}, Cmp.{IsTotalOrder, bool_cmp_total}, Cmp.Lexicographic.{slice_cmp}, declared.cmp.Ordering.{Ordering}}
use Rattle.std.{specs.declared.cmp.Ordering.TheVariants.{Less, Equal, Greater}, proofs.lemmas.Cmp.{tied_itself, upto, then_total, on_total, back_total}}
use Rattle.std.proofs.lemmas.{Cmp.{nat_cmp_total, nat_list_cmp_total}, Map.Text.{is_eq-slice_cmp}, Slice.Eq.{bytes_eq-Decides}, List.Sums.{AllPass-from_list_all}}
use Rattle.std.proofs.lemmas.List.Sums.{list_all-from_AllPass}
use Rattle.source_link.specs.{declared.pair.Pair.{Pair}, Address.{matches, key_cmp, comes_first}, Pairs.{is_pattern, fixed_part}, Laws.{ChoiceIsBest}}

further : {A : Type 0} (x y : A) (xs : List A) → Contains xs x → Contains (y ∷ xs) x
further x y xs (k, less, is) = (suc k, omega (arith, less), is)

here : {A : Type 0} (x : A) (xs : List A) → Contains (x ∷ xs) x
here x xs = (0, omega arith, refl)

pub found : {A : Type 0} (p : A → Bool) (x : A) (xs : List A) → find p xs ≡ Some x → Contains xs x × (p x ≡ true)
found p x [] is = absurd (cc)
found p x (y ∷ ys) is = step (p y) refl is (λ rest. found p x ys rest)
  where
    step : (b : Bool) → p y ≡ b → cond b (Some y) (find p ys) ≡ Some x → (find p ys ≡ Some x → Contains ys x × (p x ≡ true))
        → Contains (y ∷ ys) x × (p x ≡ true)
    step false not_y is rest = let r = rest is in (further x y ys r.0, r.1)
    step true is_y is rest = let e : y ≡ x = cc in (subst (λ z. Contains (y ∷ ys) z) e (here y ys), subst (λ z. p z ≡ true) e is_y)

in_filter : {A : Type 0} (p : A → Bool) (x : A) (xs : List A) → Contains (filter p xs) x → Contains xs x × (p x ≡ true)
in_filter p x [] (k, less, is) = absurd (omega (arith, less))
in_filter p x (y ∷ ys) there = step (p y) refl there (in_filter p x ys)
  where
    step : (b : Bool) → p y ≡ b → Contains (cond b (y ∷ filter p ys) (filter p ys)) x → (Contains (filter p ys) x → Contains ys x × (p x ≡ true))
        → Contains (y ∷ ys) x × (p x ≡ true)
    step false not_y there rest = let r = rest there in (further x y ys r.0, r.1)
    step true is_y (zero, less, e) rest = (subst (λ z. Contains (y ∷ ys) z) e (here y ys), subst (λ z. p z ≡ true) e is_y)
    step true is_y (suc k, less, e) rest = let r = rest (k, omega (arith, less), e) in (further x y ys r.0, r.1)

to_filter : {A : Type 0} (p : A → Bool) (x : A) (xs : List A) → Contains xs x → p x ≡ true → Contains (filter p xs) x
to_filter p x [] (k, less, e) passes = absurd (omega (arith, less))
to_filter p x (y ∷ ys) (zero, less, e) passes = rw (subst (λ z. p z ≡ true) (sym e) passes)
    (subst (λ z. Contains (y ∷ filter p ys) z) e (here y (filter p ys)))
to_filter p x (y ∷ ys) (suc k, less, e) passes = step (p y) (to_filter p x ys (k, omega (arith, less), e) passes)
  where
    step : (b : Bool) → Contains (filter p ys) x → Contains (cond b (y ∷ filter p ys) (filter p ys)) x
    step false there = there
    step true there = further x y (filter p ys) there

passes_all : {A : Type 0} (p : A → Bool) (xs : List A) (x : A) → list_all p xs ≡ true → Contains xs x → p x ≡ true
passes_all p xs x all (k, less, e) = subst (λ z. p z ≡ true) e (AllPass-from_list_all p xs all k x less)

-- ---- where keys differ

get_same : {A : Type 0} (xs : List A) (k : ℕ) (d : A) → k < length xs → slice_index_or xs k (slice_index_or xs k d) ≡ slice_index_or xs k d
get_same [] k d less = absurd (omega (arith, less))
get_same (x ∷ xs) zero d less = refl
get_same (x ∷ xs) (suc k) d less = get_same xs k d (omega (arith, less))

key_total : IsTotalOrder key_cmp
key_total = then_total (back_total (on_total (λ key. length (fixed_part key)) nat_cmp_total))
    (then_total (on_total is_pattern bool_cmp_total) nat_list_cmp_total)

then_equal : (o p : Ordering) → ordering_then o p ≡ Equal → p ≡ Equal
then_equal Less p e = absurd (cc)
then_equal Equal p e = e
then_equal Greater p e = absurd (cc)

between : (o p : Ordering) → p ≡ ordering_reverse o → is_le o ≡ true → is_le p ≡ true → o ≡ Equal
between Less p e a b = absurd (cc)
between Equal p e a b = refl
between Greater p e a b = absurd (cc)

same_key : (a b : List ℕ) → key_cmp a b ≡ Equal → a ≡ b
same_key a b e = (bytes_eq-Decides a b).0 (sym (is_eq-slice_cmp a b)
    ∙ ap is_eq (then_equal (bool_cmp (is_pattern a) (is_pattern b)) (slice_cmp nat_cmp a b)
    (then_equal (nat_cmp (length (fixed_part b)) (length (fixed_part a))) _ e)))

one_found : {A : Type 0} (p : A → Bool) (x : A) (xs : List A) → Contains xs x → p x ≡ true → ((y : A) → Contains xs y → p y ≡ true → y ≡ x)
    → find p xs ≡ Some x
one_found p x [] (k, less, e) passes one = absurd (omega (arith, less))
one_found p x (y ∷ ys) there passes one = step (p y) refl there (λ there. one_found p x ys there passes (λ z in_ys holds. one z (further z y ys in_ys) holds))
  where
    step : (b : Bool) → p y ≡ b → Contains (y ∷ ys) x → (Contains ys x → find p ys ≡ Some x) → cond b (Some y) (find p ys) ≡ Some x
    step true is there rest = ap Some (one y (here y ys) is)
    step false is (zero, less, e) rest = let h : p y ≡ true = subst (λ z. p z ≡ true) (sym e) passes in absurd (cc)
    step false is (suc k, less, e) rest = rest (k, omega (arith, less), e)

same_itself : (a : List ℕ) → is_le (key_cmp a a) ≡ true
same_itself a = ap is_le (tied_itself key_total a)

le_or : (o p : Ordering) → p ≡ ordering_reverse o → is_le o ≡ false → is_le p ≡ true
le_or Less p e fails = absurd (cc)
le_or Equal p e fails = absurd (cc)
le_or Greater p e fails = ap is_le e

not_gt : (o : Ordering) → is_le o ≡ true → is_gt o ≡ false
not_gt Less e = refl
not_gt Equal e = refl
not_gt Greater e = absurd (cc)

le_from : (o : Ordering) → is_gt o ≡ false → is_le o ≡ true
le_from Less e = refl
le_from Equal e = refl
le_from Greater e = absurd (cc)

pub le_through : (a b c : List ℕ) → is_le (key_cmp a b) ≡ true → is_le (key_cmp b c) ≡ true → is_le (key_cmp a c) ≡ true
le_through a b c ab bc = le_from (key_cmp a c) (upto key_total a b c (not_gt (key_cmp a b) ab) (not_gt (key_cmp b c) bc))

-- the pair comes before each of the list
Least : List Pair → Pair → Type 0
Least xs y = Contains xs y × ((z : Pair) → Contains xs z → is_le (key_cmp y.key z.key) ≡ true)

-- some pair comes before all others
least : (x : Pair) (xs : List Pair) → (y : Pair) × Least (x ∷ xs) y
unfolding Least
least x [] = (x, (here x [], one))
  where
    one : (z : Pair) → Contains (x ∷ []) z → is_le (key_cmp x.key z.key) ≡ true
    one z (zero, less, e) = subst (λ (p : Pair). is_le (key_cmp x.key p.key) ≡ true) e (same_itself x.key)
    one z (suc k, less, e) = absurd (omega (arith, less))
least x (w ∷ ws) = step (least w ws)
  where
    at_first : (y : Pair) → Least (w ∷ ws) y → is_le (key_cmp x.key y.key) ≡ true → (z : Pair) → Contains (x ∷ w ∷ ws) z → is_le (key_cmp x.key z.key) ≡ true
    at_first y l before z (zero, less, e) = subst (λ (p : Pair). is_le (key_cmp x.key p.key) ≡ true) e (same_itself x.key)
    at_first y l before z (suc k, less, e) = le_through x.key y.key z.key before (l.1 z (k, omega (arith, less), e))

    later : (y : Pair) → Least (w ∷ ws) y → is_le (key_cmp y.key x.key) ≡ true → (z : Pair) → Contains (x ∷ w ∷ ws) z → is_le (key_cmp y.key z.key) ≡ true
    later y l before z (zero, less, e) = subst (λ (p : Pair). is_le (key_cmp y.key p.key) ≡ true) e before
    later y l before z (suc k, less, e) = l.1 z (k, omega (arith, less), e)

    choose : (y : Pair) (b : Bool) → is_le (key_cmp x.key y.key) ≡ b → Least (w ∷ ws) y → (y : Pair) × Least (x ∷ w ∷ ws) y
    choose y true e l = (x, (here x (w ∷ ws), at_first y l e))
    choose y false e l = (y, (further y x (w ∷ ws) l.0, later y l (le_or (key_cmp x.key y.key) (key_cmp y.key x.key) (key_total.antisymm y.key x.key) e)))

    step : (y : Pair) × Least (w ∷ ws) y → (y : Pair) × Least (x ∷ w ∷ ws) y
    step found = choose found.0 (is_le (key_cmp x.key found.0.key)) refl found.1

none_found : {A : Type 0} (p : A → Bool) (x : A) (xs : List A) → find p xs ≡ None → Contains xs x → p x ≡ true → ⊥
none_found p x [] is (k, less, e) passes = absurd (omega (arith, less))
none_found p x (y ∷ ys) is there passes = step (p y) refl is there (λ none there. none_found p x ys none there passes)
  where
    step : (b : Bool) → p y ≡ b → cond b (Some y) (find p ys) ≡ None → Contains (y ∷ ys) x → (find p ys ≡ None → Contains ys x → ⊥) → ⊥
    step true is_y is there rest = cc
    step false not_y is (zero, less, e) rest = let h : p y ≡ true = subst (λ z. p z ≡ true) (sym e) passes in cc
    step false not_y is (suc k, less, e) rest = rest is (k, omega (arith, less), e)

none_first : (ms : List Pair) (x : Pair) → Contains ms x → find (comes_first ms) ms ≡ None → ⊥
unfolding Least
none_first [] x (k, less, e) is = absurd (omega (arith, less))
none_first (m ∷ ms) x there is =
    let l = least m ms in
    none_found (comes_first (m ∷ ms)) l.0 (m ∷ ms) is l.1.0
    (list_all-from_AllPass (λ (q : Pair). is_le (key_cmp l.0.key q.key)) (m ∷ ms)
    (λ k d less. l.1.1 (slice_index_or (m ∷ ms) k d) (k, less, get_same (m ∷ ms) k d less)))

pub choice_is_best : ChoiceIsBest
choice_is_best = record {
  best = λ name pairs pair is.
      let f = found (comes_first (filter (matches name) pairs)) pair (filter (matches name) pairs) is in
      let m = in_filter (matches name) pair pairs f.0 in
      record {
        there = m.0;
        matching = m.1;
        first = λ other there matching. passes_all (λ (q : Pair). is_le (key_cmp pair.key q.key)) (filter (matches name) pairs) other f.1
            (to_filter (matches name) other pairs there matching);
      };
  none = λ name pairs is pair there matching. none_first (filter (matches name) pairs) pair (to_filter (matches name) pair pairs there matching) is;
  chosen_is = λ name pairs pair differ best.
      let ms = filter (matches name) pairs in
      let mine = to_filter (matches name) pair pairs best.there best.matching in
      let first : comes_first ms pair ≡ true = list_all-from_AllPass (λ (q : Pair). is_le (key_cmp pair.key q.key)) ms
      (λ k d less. let at = in_filter (matches name) (slice_index_or ms k d) pairs (k, less, get_same ms k d less) in
      best.first (slice_index_or ms k d) at.0 at.1) in
      one_found (comes_first ms) pair ms mine first
      (λ other there holds.
      let at = in_filter (matches name) other pairs there in
      let back : is_le (key_cmp other.key pair.key) ≡ true = passes_all (λ (q : Pair). is_le (key_cmp other.key q.key)) ms pair holds mine in
      let forth : is_le (key_cmp pair.key other.key) ≡ true = best.first other at.0 at.1 in
      differ other pair at.0 best.there (same_key other.key pair.key
      (between (key_cmp other.key pair.key) (key_cmp pair.key other.key) (key_total.antisymm pair.key other.key) back forth)));
}
