-- How a search narrows: a name that matches, and the keys that begin as it does.
use Rattle.std.proofs.Common.{◌≡◌, ℕ, ◌+◌, ◌-◌, ◌<◌, ◌≤◌, ◌∙◌, Bool, true, false, cond, List, [], ◌∷◌, ◌++◌, length, take, get_or, refl, sym, ap, subst, arith}
use Rattle.std.{proofs.Common.{Option, Some, None, ltb, ltb-true}, specs.Prelude.{nat_eq}, specs.Char.{to_ascii_lowercase}, specs.Cmp.Lexicographic.{slice_cmp}}
use Rattle.std.specs.{List.{slice_get, starts_with}, Ordering.{is_le, ordering_then, nat_cmp, bool_cmp}, Str.{bytes_eq}, declared.cmp.Ordering.TheVariants.{Less}}
use Rattle.std.{specs.declared.cmp.Ordering.TheVariants.{Equal}, proofs.lemmas.Bool.{ltb-false}, proofs.lemmas.Bool.Decides.{nat_tests}}
use Rattle.std.proofs.lemmas.{Cmp.{tied_itself, nat_cmp_total, nat_list_cmp_total}, List.{length-map, length-take, take_all, take-take, take-map, take_more}}
use Rattle.std.proofs.lemmas.{List.{get_or-map, get_or-take}, Option.{slice_get_past, slice_get_within, get_or_from_slice_get, slice_get-get_or}}
use Rattle.std.proofs.lemmas.Slice.Eq.{bytes_eq-Decides}
use Rattle.source_link.specs.{declared.pair.Pair.{Pair}, Address.{lower, matches, key_cmp}, Pairs.{is_pattern, fixed_part}, Search.{place_cmp, rank_of, rank_at}}
use Rattle.source_link.specs.Search.{BeginsWith}

-- ---- lengths

pub low_long : (xs : List ℕ) → length (lower xs) ≡ length xs
low_long xs = length-map xs to_ascii_lowercase

pub taken : (n : ℕ) (xs : List ℕ) → n ≤ length xs → length (take n xs) ≡ n
taken n xs h = omega (arith, length-take n xs)

-- ---- how a name matches

fixed_name : (key : List ℕ) → is_pattern key ≡ false → fixed_part key ≡ key
fixed_name key e = ap (λ b. cond b (take (length key - 1) key) key) e

-- the fixed part of a key that matches is a prefix of the name, without case
pub matched_prefix : (name : List ℕ) (pair : Pair) → matches name pair ≡ true
    → (length (fixed_part pair.key) ≤ length name) × (lower (fixed_part pair.key) ≡ take (length (fixed_part pair.key)) (lower name)) ×
    (is_pattern pair.key ≡ false → length (fixed_part pair.key) ≡ length name)
matched_prefix name pair h = step (is_pattern pair.key) refl h
  where
    step : (b : Bool) → is_pattern pair.key ≡ b → cond b (starts_with nat_eq (lower name) (lower (fixed_part pair.key)))
        (bytes_eq (lower name) (lower pair.key)) ≡ true
        → (length (fixed_part pair.key) ≤ length name) × (lower (fixed_part pair.key) ≡ take (length (fixed_part pair.key)) (lower name)) ×
        (is_pattern pair.key ≡ false → length (fixed_part pair.key) ≡ length name)
    step true e t =
        let f = fixed_part pair.key in
        let same : lower f ≡ take (length (lower f)) (lower name) = (bytes_eq-Decides (lower f) (take (length (lower f)) (lower name))).0 t in
        let long : length (lower f) ≡ length (take (length (lower f)) (lower name)) = ap length same in (
          omega (arith, long, length-take (length (lower f)) (lower name), low_long f, low_long name),
          same ∙ ap (λ n. take n (lower name)) (low_long f),
          λ not_so. absurd (cc),
        )
    step false e t =
        let f = fixed_part pair.key in
        let key : f ≡ pair.key = fixed_name pair.key e in
        let same : lower name ≡ lower pair.key = (bytes_eq-Decides (lower name) (lower pair.key)).0 t in
        let both : lower f ≡ lower name = ap lower key ∙ sym same in
        let long : length (lower f) ≡ length (lower name) = ap length both in
        let even : length f ≡ length name = omega (arith, long, low_long f, low_long name) in
        (omega (arith, even), both ∙ sym (take_all (length f) (lower name) (omega (arith, even, low_long name))), λ so. even)

pub pattern_matches : (name : List ℕ) (pair : Pair) → is_pattern pair.key ≡ true
    → lower (fixed_part pair.key) ≡ take (length (fixed_part pair.key)) (lower name) → matches name pair ≡ true
pattern_matches name pair e same =
    let f = fixed_part pair.key in
    ap (λ b. cond b (starts_with nat_eq (lower name) (lower f)) (bytes_eq (lower name) (lower pair.key))) e
    ∙ (bytes_eq-Decides (lower f) (take (length (lower f)) (lower name))).1 (same ∙ ap (λ n. take n (lower name)) (sym (low_long f)))

pub name_matches : (name : List ℕ) (pair : Pair) → is_pattern pair.key ≡ false → lower (fixed_part pair.key) ≡ lower name → matches name pair ≡ true
name_matches name pair e same =
    let f = fixed_part pair.key in
    ap (λ b. cond b (starts_with nat_eq (lower name) (lower f)) (bytes_eq (lower name) (lower pair.key))) e
    ∙ (bytes_eq-Decides (lower name) (lower pair.key)).1 (sym same ∙ ap lower (fixed_name pair.key e))

-- a key that matches begins with each prefix of the name that is not longer
pub begins_of : (name : List ℕ) (pair : Pair) (n : ℕ) → matches name pair ≡ true → n ≤ length (fixed_part pair.key) → BeginsWith (take n name) pair
begins_of name pair n h short =
    let f = fixed_part pair.key in
    let m = matched_prefix name pair h in
    let n_is : length (take n name) ≡ n = taken n name (omega (arith, m.0, short)) in (
      omega (arith, n_is, short),
      ap (λ k. take k (lower f)) n_is ∙ ap (λ l. take n l) m.1 ∙ take-take n (length f) (lower name) short ∙ take-map to_ascii_lowercase n name,
    )

pub whole_begins : (name : List ℕ) (pair : Pair) → BeginsWith name pair → length (fixed_part pair.key) ≤ length name
    → lower (fixed_part pair.key) ≡ lower name
whole_begins name pair begins short =
    let f = fixed_part pair.key in
    sym (take_all (length name) (lower f) (omega (arith, low_long f, short))) ∙ begins.1

-- ---- what a rank says

rank_big : (n byte : ℕ) (pair : Pair) → rank_at n pair ≡ 2 + byte
    → (n < length (fixed_part pair.key)) × (to_ascii_lowercase (get_or (fixed_part pair.key) n 0) ≡ byte)
rank_big n byte pair h = step (slice_get (fixed_part pair.key) n) refl h
  where
    low : (b : Bool) → ◌≡◌ {A = ℕ} (cond b 1 0) (2 + byte) → ⊥
    low true e = omega (arith, e)
    low false e = omega (arith, e)

    step : (o : Option ℕ) → slice_get (fixed_part pair.key) n ≡ o → rank_of (is_pattern pair.key) o ≡ 2 + byte
        → (n < length (fixed_part pair.key)) × (to_ascii_lowercase (get_or (fixed_part pair.key) n 0) ≡ byte)
    step None is e = absurd (low (is_pattern pair.key) e)
    step (Some x) is e = (
      slice_get_within (fixed_part pair.key) n x is,
      ap to_ascii_lowercase (get_or_from_slice_get (fixed_part pair.key) n x 0 is) ∙ (omega (arith, e)),
    )

pub rank_small : (n : ℕ) (pair : Pair) → rank_at n pair < 2 → length (fixed_part pair.key) ≤ n
rank_small n pair h = step (ltb n (length (fixed_part pair.key))) refl
  where
    step : (b : Bool) → ltb n (length (fixed_part pair.key)) ≡ b → length (fixed_part pair.key) ≤ n
    step true e =
        let f = fixed_part pair.key in
        let is = slice_get-get_or f n 0 (ltb-true n (length f) e) in
        let big : rank_at n pair ≡ 2 + to_ascii_lowercase (get_or f n 0) = ap (λ o. rank_of (is_pattern pair.key) o) is in
        absurd (omega (arith, big, h))
    step false e = ltb-false n (length (fixed_part pair.key)) e

pub rank_past : (n : ℕ) (pair : Pair) → length (fixed_part pair.key) ≤ n → rank_at n pair ≡ cond (is_pattern pair.key) 1 0
rank_past n pair h = ap (λ o. rank_of (is_pattern pair.key) o) (slice_get_past (fixed_part pair.key) n h)

pub rank_one : (n : ℕ) (pair : Pair) → rank_at n pair ≡ 1 → (length (fixed_part pair.key) ≤ n) × (is_pattern pair.key ≡ true)
rank_one n pair h =
    let short = rank_small n pair (omega (arith, h)) in
    (short, step (is_pattern pair.key) (sym (rank_past n pair short) ∙ h))
  where
    step : (b : Bool) → ◌≡◌ {A = ℕ} (cond b 1 0) 1 → b ≡ true
    step true e = refl
    step false e = absurd (omega (arith, e))

rank_here : (n : ℕ) (pair : Pair) → n < length (fixed_part pair.key) → rank_at n pair ≡ 2 + to_ascii_lowercase (get_or (fixed_part pair.key) n 0)
rank_here n pair less = ap (λ o. rank_of (is_pattern pair.key) o) (slice_get-get_or (fixed_part pair.key) n 0 less)

-- ---- one byte more

pub begins_more : (name : List ℕ) (at : ℕ) (pair : Pair) → at < length name → BeginsWith (take at name) pair
    → rank_at at pair ≡ 2 + to_ascii_lowercase (get_or name at 0)
    → BeginsWith (take (at + 1) name) pair
begins_more name at pair less begins goes =
    let f = fixed_part pair.key in
    let big = rank_big at (to_ascii_lowercase (get_or name at 0)) pair goes in
    let n : length (take at name) ≡ at = taken at name (omega (arith, less)) in
    let m : length (take (at + 1) name) ≡ at + 1 = taken (at + 1) name (omega (arith, less)) in
    let prefix : take at (lower f) ≡ lower (take at name) = ap (λ k. take k (lower f)) (sym n) ∙ begins.1 in
    let byte : get_or (lower f) at 0 ≡ to_ascii_lowercase (get_or name at 0) = get_or-map to_ascii_lowercase f at 0 0 big.0 ∙ big.1 in
    let left : take (at + 1) (lower f) ≡ take at (lower f) ++ get_or (lower f) at 0 ∷ [] = take_more (lower f) at 0 (omega (arith, low_long f, big.0)) in
    let right : take (at + 1) (lower name) ≡ take at (lower name) ++ get_or (lower name) at 0 ∷ [] =
    take_more (lower name) at 0 (omega (arith, low_long name, less)) in
    let read : get_or (lower name) at 0 ≡ to_ascii_lowercase (get_or name at 0) = get_or-map to_ascii_lowercase name at 0 0 less in (
      omega (arith, m, big.0),
      ap (λ k. take k (lower f)) m ∙ left ∙ ap (λ l. l ++ get_or (lower f) at 0 ∷ []) (prefix ∙ sym (take-map to_ascii_lowercase at name))
          ∙ ap (λ b. take at (lower name) ++ b ∷ []) (byte ∙ sym read) ∙ sym right ∙ take-map to_ascii_lowercase (at + 1) name,
    )

pub begins_back : (name : List ℕ) (at : ℕ) (pair : Pair) → at < length name → BeginsWith (take (at + 1) name) pair
    → BeginsWith (take at name) pair × (rank_at at pair ≡ 2 + to_ascii_lowercase (get_or name at 0))
begins_back name at pair less begins =
    let f = fixed_part pair.key in
    let n : length (take at name) ≡ at = taken at name (omega (arith, less)) in
    let m : length (take (at + 1) name) ≡ at + 1 = taken (at + 1) name (omega (arith, less)) in
    let long : at < length f = omega (arith, begins.0, m) in
    let whole : take (at + 1) (lower f) ≡ take (at + 1) (lower name) = ap (λ k. take k (lower f)) (sym m) ∙ begins.1
    ∙ sym (take-map to_ascii_lowercase (at + 1) name) in
    let prefix : take at (lower f) ≡ take at (lower name) = sym (take-take at (at + 1) (lower f) (omega arith)) ∙ ap (λ l. take at l) whole
    ∙ take-take at (at + 1) (lower name) (omega arith) in
    let byte : get_or (lower f) at 0 ≡ get_or (lower name) at 0 = sym (get_or-take (at + 1) (lower f) at 0 (omega arith)) ∙ ap (λ l. get_or l at 0) whole
    ∙ get_or-take (at + 1) (lower name) at 0 (omega arith) in
    let same : to_ascii_lowercase (get_or f at 0) ≡ to_ascii_lowercase (get_or name at 0) = sym (get_or-map to_ascii_lowercase f at 0 0 long) ∙ byte
    ∙ get_or-map to_ascii_lowercase name at 0 0 less in (
      (omega (arith, n, long), ap (λ k. take k (lower f)) n ∙ prefix ∙ take-map to_ascii_lowercase at name),
      rank_here at pair long ∙ ap (λ b. 2 + b) same,
    )

-- ---- which of two keys comes first

before : (x y : ℕ) → x < y → nat_cmp x y ≡ Less
before x y h = grind (arith, nat_tests)

pub longer_first : (a b : List ℕ) → length (fixed_part b) < length (fixed_part a) → is_le (key_cmp a b) ≡ true
longer_first a b h = ap (λ o. is_le (ordering_then o (ordering_then (bool_cmp (is_pattern a) (is_pattern b)) (slice_cmp nat_cmp a b))))
    (before (length (fixed_part b)) (length (fixed_part a)) h)

pub place_first : (a b : List ℕ) → lower (fixed_part a) ≡ lower (fixed_part b) → is_le (place_cmp a b) ≡ true → is_le (key_cmp a b) ≡ true
place_first a b same h =
    let others = ordering_then (bool_cmp (is_pattern a) (is_pattern b)) (slice_cmp nat_cmp a b) in
    let texts : slice_cmp nat_cmp (lower (fixed_part a)) (lower (fixed_part b)) ≡ Equal =
    subst (λ l. slice_cmp nat_cmp (lower (fixed_part a)) l ≡ Equal) same (tied_itself nat_list_cmp_total (lower (fixed_part a))) in
    let long : length (fixed_part b) ≡ length (fixed_part a) = omega (arith, low_long (fixed_part a), low_long (fixed_part b), ap length same) in
    let numbers : nat_cmp (length (fixed_part b)) (length (fixed_part a)) ≡ Equal =
    subst (λ n. nat_cmp (length (fixed_part b)) n ≡ Equal) long (tied_itself nat_cmp_total (length (fixed_part b))) in
    ap (λ o. is_le (ordering_then o others)) numbers ∙ sym (ap (λ o. is_le (ordering_then o others)) texts) ∙ h
