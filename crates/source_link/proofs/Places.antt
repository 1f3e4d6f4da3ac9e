-- Pairs in order: a search among those that share a prefix, by how they go on.
use Rattle.std.proofs.Common.{◌≡◌, ℕ, zero, suc, ◌+◌, ◌-◌, ◌<◌, ◌≤◌, ◌∙◌, Bool, true, false, cond, List, [], ◌∷◌, length, take, drop, get_or, refl, sym, ap, subst}
use Rattle.std.{proofs.Common.{arith, Option, Some, None, Bor, ltb, ltb-true, length-drop, length-take}, specs.Prelude.{Contains}, specs.Char.{to_ascii_lowercase}}
use Rattle.std.specs.{Cmp.{IsTotalOrder, bool_cmp_total}, Cmp.Lexicographic.{slice_cmp}, List.{slice_get, AllWithin}, List.Sorted.{IsNonDecreasingBy}}
use Rattle.std.specs.{Option.{option_map}, Ordering.{is_le, is_lt, ordering_then, ordering_reverse, nat_cmp, bool_cmp}, Slice.{IsGetResult}}
use Rattle.std.{specs.declared.cmp.Ordering.{Ordering}, specs.declared.cmp.Ordering.TheVariants.{Less, Equal, Greater}, proofs.lemmas.Cmp.{then_total, on_total}}
use Rattle.std.proofs.lemmas.{Cmp.{nat_list_cmp_total, nat_cmp_total, tied_itself}, List.Sorted.{ranks_by, sorted_far}, List.Elements.{Contains-get_or}}
use Rattle.std.proofs.lemmas.{List.{length-map, get_or_default, get_or-take, get_or-drop}, Option.{slice_get-map}, Bool.{ltb-false}, Bool.Decides.{nat_tests}}
use Rattle.source_link.specs.{declared.pair.Pair.{Pair}, Address.{lower}, Pairs.{is_pattern, fixed_part}, Search.{place_cmp, AreInOrder, rank_of, rank_at}}
use Rattle.source_link.specs.Search.{BeginsWith}

pub place_total : IsTotalOrder place_cmp
place_total = then_total (on_total (λ key. lower (fixed_part key)) nat_list_cmp_total) (then_total (on_total is_pattern bool_cmp_total) nat_list_cmp_total)

back : (o p : Ordering) → p ≡ ordering_reverse o → is_lt o ≡ false → is_le p ≡ true
back Less p e h = absurd (cc)
back Equal p e h = ap is_le e
back Greater p e h = ap is_le e

-- an earlier pair is not after a later one
pub in_order : (part : List Pair) (i j : ℕ) (d : Pair) → AreInOrder part → i ≤ j → j < length part
    → is_le (place_cmp (get_or part i d).key (get_or part j d).key) ≡ true
in_order part i j d order up less =
    let a = get_or part i d in let b = get_or part j d in
    back (place_cmp b.key a.key) (place_cmp a.key b.key) (place_total.antisymm a.key b.key)
    (sorted_far (λ (x y : Pair). is_lt (place_cmp x.key y.key)) (ranks_by place_total (λ (p : Pair). p.key)) part order i j d up less)

-- ---- how keys go on where they share a prefix

-- how a text goes on at a place, where its key is a name or a pattern
rank_in : Bool → Option ℕ → ℕ
rank_in pattern None = cond pattern 1 0
rank_in pattern (Some byte) = 2 + byte

low : (p : Bool) → cond p 1 0 ≤ 1
low true = omega arith
low false = omega arith

ended_both : (p q : Bool) (o : Ordering) → is_le (ordering_then (bool_cmp p q) o) ≡ true → cond p 1 0 ≤ cond q 1 0
ended_both true true o h = omega arith
ended_both true false o h = absurd (cc)
ended_both false true o h = omega arith
ended_both false false o h = omega arith

first_up : (c o p : Ordering) → is_le (ordering_then (ordering_then c o) p) ≡ true → is_le c ≡ true
first_up Less o p h = refl
first_up Equal o p h = refl
first_up Greater o p h = absurd (cc)

number_up : (x y : ℕ) → is_le (nat_cmp x y) ≡ true → x ≤ y
number_up x y h = grind (arith, nat_tests)

byte_up : (x y : ℕ) (o p : Ordering) → is_le (ordering_then (ordering_then (nat_cmp x y) o) p) ≡ true → x ≤ y
byte_up x y o p h = number_up x y (first_up (nat_cmp x y) o p h)

tied : (x y : ℕ) → x ≡ y → nat_cmp x y ≡ Equal
tied x y e = subst (λ z. nat_cmp x z ≡ Equal) e (tied_itself nat_cmp_total x)

ranks_up : (p q : Bool) (x y : List ℕ) (o : Ordering) (n : ℕ) → take n x ≡ take n y → n ≤ length x → n ≤ length y
    → is_le (ordering_then (slice_cmp nat_cmp x y) (ordering_then (bool_cmp p q) o)) ≡ true → rank_in p (slice_get x n) ≤ rank_in q (slice_get y n)
unfolding rank_in
ranks_up p q [] [] o zero same a b h = ended_both p q o h
ranks_up p q [] (y ∷ ys) o zero same a b h = let l = low p in omega (arith, l)
ranks_up p q (x ∷ xs) [] o zero same a b h = absurd (cc)
ranks_up p q (x ∷ xs) (y ∷ ys) o zero same a b h = let l = byte_up x y (slice_cmp nat_cmp xs ys) (ordering_then (bool_cmp p q) o) h in omega (arith, l)
ranks_up p q [] y o (suc n) same a b h = absurd (omega (arith, a))
ranks_up p q (x ∷ xs) [] o (suc n) same a b h = absurd (omega (arith, b))
ranks_up p q (x ∷ xs) (y ∷ ys) o (suc n) same a b h =
    let first : x ≡ y = cc in let others : take n xs ≡ take n ys = cc in
    ranks_up p q xs ys o n others (omega (arith, a)) (omega (arith, b)) (rw (tied x y first) at h)

rank_is : (pair : Pair) (n : ℕ) → rank_at n pair ≡ rank_in (is_pattern pair.key) (slice_get (lower (fixed_part pair.key)) n)
unfolding rank_in
rank_is pair n = rw (slice_get-map to_ascii_lowercase (fixed_part pair.key) n) (lifted (slice_get (fixed_part pair.key) n))
  where
    lifted : (o : Option ℕ) → rank_of (is_pattern pair.key) o ≡ rank_in (is_pattern pair.key) (option_map to_ascii_lowercase o)
    lifted None = refl
    lifted (Some b) = refl

pub ranks_rise : (part : List Pair) (prefix : List ℕ) → AreInOrder part → ((pair : Pair) → Contains part pair → BeginsWith prefix pair)
    → IsNonDecreasingBy (rank_at (length prefix)) part
ranks_rise part prefix order those i j d up less =
    let a = get_or part i d in let b = get_or part j d in
    let at_a = those a (Contains-get_or part i d (omega arith)) in
    let at_b = those b (Contains-get_or part j d less) in
    let same : take (length prefix) (lower (fixed_part a.key)) ≡ take (length prefix) (lower (fixed_part b.key)) = at_a.1 ∙ sym at_b.1 in
    rw (rank_is a (length prefix), rank_is b (length prefix))
    (ranks_up (is_pattern a.key) (is_pattern b.key) (lower (fixed_part a.key)) (lower (fixed_part b.key)) (slice_cmp nat_cmp a.key b.key) (length prefix)
    same (omega (arith, at_a.0, length-map (fixed_part a.key) to_ascii_lowercase)) (omega (arith, at_b.0, length-map (fixed_part b.key) to_ascii_lowercase))
    (in_order part i j d order up less))

-- ---- what a search at a place finds

-- the pair at a place that was read
pub read_at : (xs : List Pair) (i : ℕ) (r : Option (Bor Pair)) (x : Bor Pair) → IsGetResult xs i i r → r ≡ Some x
    → (i < length xs) × (x.now ≡ get_or xs i x.now)
read_at xs i None x h e = absurd (cc)
read_at xs i (Some y) x h e = let same : y ≡ x = cc in subst (λ (z : Bor Pair). (i < length xs) × (z.now ≡ get_or xs i z.now)) same (h.3.0, h.1)

-- no pair before the place has the rank
from_place : (part : List Pair) (at i least : ℕ) (pair : Pair) (j : ℕ) → AllWithin (λ p. rank_at at p < least) part 0 i → get_or part j pair ≡ pair
    → least ≤ rank_at at pair → i ≤ j
from_place part at i least pair j below is up = step (ltb j i) refl
  where
    step : (b : Bool) → ltb j i ≡ b → i ≤ j
    step true e =
        let low = below j pair (omega arith) (ltb-true j i e) in
        let same : rank_at at (get_or part j pair) ≡ rank_at at pair = ap (λ p. rank_at at p) is in
        absurd (omega (arith, low, same, up))
    step false e = ltb-false j i e

-- the first pair that is not below the rank of patterns that have ended comes before all of them
pub least_ended : (part : List Pair) (at i : ℕ) (first : Pair) → AreInOrder part → AllWithin (λ p. rank_at at p < 1) part 0 i → i < length part
    → first ≡ get_or part i first
    → (pair : Pair) → Contains part pair → rank_at at pair ≡ 1 → is_le (place_cmp first.key pair.key) ≡ true
least_ended part at i first order below less is pair (j, within, e) one =
    let up = from_place part at i 1 pair j below e (omega (arith, one)) in
    let here : get_or part i pair ≡ first = get_or_default part i pair first less ∙ sym is in
    subst (λ (p : Pair). is_le (place_cmp first.key p.key) ≡ true) e
    (subst (λ (p : Pair). is_le (place_cmp p.key (get_or part j pair).key) ≡ true) here (in_order part i j pair order up within))

pub none_ended : (part : List Pair) (at i : ℕ) (first : Pair) → IsNonDecreasingBy (rank_at at) part → AllWithin (λ p. rank_at at p < 1) part 0 i
    → AllWithin (λ p. 1 ≤ rank_at at p) part i (length part)
    → i < length part → first ≡ get_or part i first → (rank_at at first ≡ 1 → ⊥) → (pair : Pair) → Contains part pair → rank_at at pair ≡ 1 → ⊥
none_ended part at i first rising below above less is other pair (j, within, e) one =
    let up = from_place part at i 1 pair j below e (omega (arith, one)) in
    let low = above i first (omega arith) less in
    let here : rank_at at (get_or part i first) ≡ rank_at at first = ap (λ p. rank_at at p) (sym is) in
    let same : get_or part i pair ≡ get_or part i first = get_or_default part i pair first less in
    let rises = rising i j pair up within in
    let pick : rank_at at (get_or part i pair) ≡ rank_at at (get_or part i first) = ap (λ p. rank_at at p) same in
    let last : rank_at at (get_or part j pair) ≡ rank_at at pair = ap (λ p. rank_at at p) e in
    other (omega (arith, low, here, rises, pick, last, one))

-- the pairs of a rank are what two halvings leave
pub ranked_kept : (part : List Pair) (at n m rank : ℕ) (pair : Pair) → AllWithin (λ p. rank_at at p < rank) part 0 n
    → AllWithin (λ p. rank + 1 ≤ rank_at at p) (drop n part) m (length (drop n part))
    → Contains part pair → rank_at at pair ≡ rank → Contains (take m (drop n part)) pair
ranked_kept part at n m rank pair below above (j, within, e) is =
    let up = from_place part at n rank pair j below e (omega (arith, is)) in
    let place : n + (j - n) ≡ j = omega (arith, up) in
    let read : get_or (drop n part) (j - n) pair ≡ pair = get_or-drop n part (j - n) pair ∙ ap (λ k. get_or part k pair) place ∙ e in
    let long : j - n < length (drop n part) = omega (arith, length-drop n part, within, up) in
    let less = before (ltb (j - n) m) refl read long in
    (j - n, omega (arith, length-take m (drop n part), less, long), get_or-take m (drop n part) (j - n) pair less ∙ read)
  where
    before : (b : Bool) → ltb (j - n) m ≡ b → get_or (drop n part) (j - n) pair ≡ pair → j - n < length (drop n part) → j - n < m
    before true t read long = ltb-true (j - n) m t
    before false t read long =
        let high = above (j - n) pair (ltb-false (j - n) m t) long in
        let same : rank_at at (get_or (drop n part) (j - n) pair) ≡ rank_at at pair = ap (λ p. rank_at at p) read in
        absurd (omega (arith, high, same, is))

-- the first pair comes before all
pub first_place : (part : List Pair) (first pair : Pair) → AreInOrder part → 0 < length part → first ≡ get_or part 0 first → Contains part pair
    → is_le (place_cmp first.key pair.key) ≡ true
first_place part first pair order some is (j, within, e) =
    let here : get_or part 0 pair ≡ first = get_or_default part 0 pair first some ∙ sym is in
    subst (λ (p : Pair). is_le (place_cmp first.key p.key) ≡ true) e
    (subst (λ (p : Pair). is_le (place_cmp p.key (get_or part j pair).key) ≡ true) here (in_order part 0 j pair order (omega arith) within))

-- and has the least rank
pub first_rank : (part : List Pair) (at least : ℕ) (first : Pair) → IsNonDecreasingBy (rank_at at) part → 0 < length part → first ≡ get_or part 0 first
    → least ≤ rank_at at first
    → (pair : Pair) → Contains part pair → least ≤ rank_at at pair
first_rank part at least first rising some is big pair (j, within, e) =
    let here : get_or part 0 pair ≡ first = get_or_default part 0 pair first some ∙ sym is in
    let rises = rising 0 j pair (omega arith) within in
    let low : rank_at at (get_or part 0 pair) ≡ rank_at at first = ap (λ p. rank_at at p) here in
    let high : rank_at at (get_or part j pair) ≡ rank_at at pair = ap (λ p. rank_at at p) e in
    omega (arith, rises, low, high, big)

pub none_there : (part : List Pair) (r : Option (Bor Pair)) → IsGetResult part 0 0 r → r ≡ None → (pair : Pair) → Contains part pair → ⊥
none_there part None h e pair (j, within, is) = let past = h.3 in omega (arith, past, within)
none_there part (Some x) h e pair inside = absurd (cc)
