-- The steps and the end of a search.
use Rattle.std.proofs.Common.{◌≡◌, ℕ, ◌+◌, ◌<◌, ◌≤◌, ◌∙◌, Bool, true, false, cond, List, length, take, get_or, refl, sym, ap, subst, arith, Option, Some, None, Bor}
use Rattle.std.{proofs.Common.{ltb, ltb-true}, specs.Prelude.{Contains, MatchOption, ◌≢◌}, specs.Char.{to_ascii_lowercase}, specs.List.Sorted.{IsNonDecreasingBy}}
use Rattle.std.{specs.Option.{option_or}, specs.Ordering.{is_le}, proofs.lemmas.Bool.{ltb-false}, proofs.lemmas.List.{take_all, take-map}}
use Rattle.source_link.specs.{declared.pair.Pair.{Pair}, Address.{lower, matches, key_cmp}, Laws.{IsBest}, Pairs.{is_pattern, fixed_part}, Search.{place_cmp}}
use Rattle.source_link.{specs.Search.{AreInOrder, rank_at, BeginsWith}, proofs.Narrowed.{Ended, Narrowed}, proofs.Narrowing.{taken, low_long, matched_prefix}}
use Rattle.source_link.proofs.Narrowing.{pattern_matches, name_matches, begins_of, whole_begins, rank_small, rank_past, rank_one, begins_more, begins_back}
use Rattle.source_link.proofs.{Narrowing.{longer_first, place_first}, Places.{ranks_rise}}

pub rising : (pairs : List Pair) (name : List ℕ) (at : ℕ) (part : List Pair) (found : Option (Bor Pair)) → Narrowed pairs name at part found
    → at ≤ length name → IsNonDecreasingBy (rank_at at) part
rising pairs name at part found n within =
    subst (λ k. IsNonDecreasingBy (rank_at k) part) (taken at name within) (ranks_rise part (take at name) n.order (λ pair there. (n.those pair there).1))

-- the first of the patterns that have ended at a place, where there is one
abbrev pub EndedAt : List Pair → ℕ → Option (Bor Pair) → Type 0
EndedAt part at r = MatchOption r ((pair : Pair) → Contains part pair → rank_at at pair ≢ 1)
    (λ first. Contains part first.now × (rank_at at first.now ≡ 1) × ((pair : Pair) → Contains part pair → rank_at at pair ≡ 1
    → is_le (place_cmp first.now.key pair.key) ≡ true))

-- a pattern whose fixed part ends at a place
ends_here : (pairs : List Pair) (name : List ℕ) (at : ℕ) (part : List Pair) (found : Option (Bor Pair)) (pair : Pair) → Narrowed pairs name at part found
    → at < length name
    → Ended name (at + 1) pairs pair → at ≤ length (fixed_part pair.key) → Contains part pair × (rank_at at pair ≡ 1)
ends_here pairs name at part found pair n less ended long =
    let short = ended.shorter in
    let there = n.all pair ended.there (begins_of name pair at ended.matching long) in
    (there, rank_past at pair (omega (arith, short)) ∙ step (is_pattern pair.key) refl)
  where
    step : (b : Bool) → is_pattern pair.key ≡ b → ◌≡◌ {A = ℕ} (cond b 1 0) 1
    step true e = refl
    step false e = let even = (matched_prefix name pair ended.matching).2 e in absurd (omega (arith, even, ended.shorter, less))

-- two patterns that end at one place of a name have one fixed part, without case
same_fixed : (name : List ℕ) (at : ℕ) (a b : Pair) → matches name a ≡ true → matches name b ≡ true → length (fixed_part a.key) ≡ length (fixed_part b.key)
    → lower (fixed_part a.key) ≡ lower (fixed_part b.key)
same_fixed name at a b ma mb even = (matched_prefix name a ma).1 ∙ ap (λ n. take n (lower name)) even ∙ sym (matched_prefix name b mb).1

ended_later : (name : List ℕ) (at : ℕ) (pairs : List Pair) (pair : Pair) → Ended name at pairs pair → Ended name (at + 1) pairs pair
ended_later name at pairs pair e = let s = e.shorter in record { there = e.there; matching = e.matching; shorter = omega (arith, s) }

-- what is remembered after one byte more
remembered : (pairs : List Pair) (name : List ℕ) (at : ℕ) (part : List Pair) (found here : Option (Bor Pair)) → Narrowed pairs name at part found
    → at < length name → EndedAt part at here
    → MatchOption (option_or here found) ((pair : Pair) → Ended name (at + 1) pairs pair → ⊥)
    (λ best. Ended name (at + 1) pairs best.now × ((pair : Pair) → Ended name (at + 1) pairs pair → is_le (key_cmp best.now.key pair.key) ≡ true))
remembered pairs name at part found (Some first) n less h =
    let prefix = n.those first.now h.0 in
    let one = rank_one at first.now h.1 in
    let at_is : length (take at name) ≡ at = taken at name (omega (arith, less)) in
    let long : at ≤ length (fixed_part first.now.key) = let b = prefix.1.0 in omega (arith, b, at_is) in
    let even : length (fixed_part first.now.key) ≡ at = let s = one.0 in omega (arith, s, long) in
    let whole : lower (fixed_part first.now.key) ≡ lower (take at name) = whole_begins (take at name) first.now prefix.1 (omega (arith, at_is, even)) in
    let matched : matches name first.now ≡ true = pattern_matches name first.now one.1
    (whole ∙ sym (take-map to_ascii_lowercase at name) ∙ ap (λ k. take k (lower name)) (sym even)) in (
      record { there = prefix.0; matching = matched; shorter = omega (arith, even) },
      λ pair ended. choose pair ended matched even (ltb (length (fixed_part pair.key)) at) refl,
    )
  where
    choose : (pair : Pair) → Ended name (at + 1) pairs pair → matches name first.now ≡ true → length (fixed_part first.now.key) ≡ at → (b : Bool)
        → ltb (length (fixed_part pair.key)) at ≡ b → is_le (key_cmp first.now.key pair.key) ≡ true
    choose pair ended matched even true t = let short = ltb-true _ _ t in longer_first first.now.key pair.key (omega (arith, short, even))
    choose pair ended matched even false t =
        let long = ltb-false _ _ t in
        let here = ends_here pairs name at part found pair n less ended long in
        let short = ended.shorter in
        place_first first.now.key pair.key (same_fixed name at first.now pair matched ended.matching (omega (arith, long, short, even)))
        (h.2 pair here.0 here.1)
remembered pairs name at part None None n less h = λ pair ended. choose pair ended (ltb (length (fixed_part pair.key)) at) refl
  where
    choose : (pair : Pair) → Ended name (at + 1) pairs pair → (b : Bool) → ltb (length (fixed_part pair.key)) at ≡ b → ⊥
    choose pair ended true t = n.ended pair (record { there = ended.there; matching = ended.matching; shorter = ltb-true _ _ t })
    choose pair ended false t = let here = ends_here pairs name at part None pair n less ended (ltb-false _ _ t) in h pair here.0 here.1
remembered pairs name at part (Some best) None n less h = (
  ended_later name at pairs best.now n.ended.0,
  λ pair ended. choose pair ended
      (ltb (length (fixed_part pair.key)) at) refl,
)
  where
    choose : (pair : Pair) → Ended name (at + 1) pairs pair → (b : Bool) → ltb (length (fixed_part pair.key)) at ≡ b
        → is_le (key_cmp best.now.key pair.key) ≡ true
    choose pair ended true t = n.ended.1 pair (record { there = ended.there; matching = ended.matching; shorter = ltb-true _ _ t })
    choose pair ended false t = let here = ends_here pairs name at part (Some best) pair n less ended (ltb-false _ _ t) in absurd (h pair here.0 here.1)

-- one byte more of the name
pub narrowed_on : (pairs : List Pair) (name : List ℕ) (at byte : ℕ) (part next : List Pair) (found here after : Option (Bor Pair))
    → Narrowed pairs name at part found → at < length name → byte ≡ get_or name at 0
    → EndedAt part at here → after ≡ option_or here found → AreInOrder next
    → ((pair : Pair) → Contains next pair → Contains part pair × (rank_at at pair ≡ 2 + to_ascii_lowercase byte))
    → ((pair : Pair) → Contains part pair → rank_at at pair ≡ 2 + to_ascii_lowercase byte → Contains next pair)
    → Narrowed pairs name (at + 1) next after
narrowed_on pairs name at byte part next found here after n less is ended or order those all = record {
  order = order;
  those = λ pair there.
      let was = those pair there in
      let before = n.those pair was.0 in
      (before.0, begins_more name at pair less before.1 (was.1 ∙ ap (λ b. 2 + to_ascii_lowercase b) is));
  all = λ pair there begins.
      let prefix = begins_back name at pair less begins in
      all pair (n.all pair there prefix.0) (prefix.1 ∙ ap (λ b. 2 + to_ascii_lowercase b) (sym is));
  ended = subst (λ (r : Option (Bor Pair)). MatchOption r ((pair : Pair) → Ended name (at + 1) pairs pair → ⊥)
      (λ best. Ended name (at + 1) pairs best.now × ((pair : Pair) → Ended name (at + 1) pairs pair → is_le (key_cmp best.now.key pair.key) ≡ true))) (sym or)
      (remembered pairs name at part found here n less ended);
}

-- ---- the end of the name

whole_name : (name : List ℕ) (at : ℕ) (pair : Pair) → length name ≤ at → BeginsWith (take at name) pair → BeginsWith name pair
whole_name name at pair past begins = subst (λ l. BeginsWith l pair) (take_all at name past) begins

-- a pair that matches and whose fixed part is not shorter than the name is in the part that is left
at_end : (pairs : List Pair) (name : List ℕ) (at : ℕ) (part : List Pair) (found : Option (Bor Pair)) (pair : Pair) → Narrowed pairs name at part found
    → at ≡ length name
    → Contains pairs pair → matches name pair ≡ true → at ≤ length (fixed_part pair.key) → Contains part pair
at_end pairs name at part found pair n end there matching long = n.all pair there (begins_of name pair at matching long)

-- the first of the part is the best where its fixed part ends here
pub first_is_best : (pairs : List Pair) (name : List ℕ) (at : ℕ) (part : List Pair) (found : Option (Bor Pair)) (first : Pair)
    → Narrowed pairs name at part found → at ≡ length name
    → Contains part first → ((pair : Pair) → Contains part pair → is_le (place_cmp first.key pair.key) ≡ true) → rank_at (length name) first < 2
    → IsBest name pairs first
first_is_best pairs name at part found first n end there before small =
    let prefix = n.those first there in
    let begins = whole_name name at first (omega (arith, end)) prefix.1 in
    let short = rank_small (length name) first small in
    let whole = whole_begins name first begins short in
    let even : length (fixed_part first.key) ≡ length name = let b = begins.0 in omega (arith, b, short) in
    let mine = matched (is_pattern first.key) refl whole even in
    record {
      there = prefix.0;
      matching = mine;
      first = λ other inside matching. choose other inside matching mine even (ltb (length (fixed_part other.key)) at) refl;
    }
  where
    matched : (b : Bool) → is_pattern first.key ≡ b → lower (fixed_part first.key) ≡ lower name → length (fixed_part first.key) ≡ length name
        → matches name first ≡ true
    matched true e whole even = pattern_matches name first e
        (whole ∙ sym (take_all (length (fixed_part first.key)) (lower name) (omega (arith, low_long name, even))))
    matched false e whole even = name_matches name first e whole

    choose : (other : Pair) → Contains pairs other → matches name other ≡ true → matches name first ≡ true → length (fixed_part first.key) ≡ length name
        → (b : Bool) → ltb (length (fixed_part other.key)) at ≡ b → is_le (key_cmp first.key other.key) ≡ true
    choose other inside matching mine even true t = let short = ltb-true _ _ t in longer_first first.key other.key (omega (arith, short, even, end))
    choose other inside matching mine even false t =
        let long = ltb-false _ _ t in
        let most = (matched_prefix name other matching).0 in
        place_first first.key other.key (same_fixed name at first other mine matching (omega (arith, long, most, even, end)))
        (before other (at_end pairs name at part found other n end inside matching long))

-- where no fixed part ends here, each pair that matches has ended before
shorter_than : (pairs : List Pair) (name : List ℕ) (at : ℕ) (part : List Pair) (found : Option (Bor Pair)) → Narrowed pairs name at part found
    → at ≡ length name
    → ((pair : Pair) → Contains part pair → 2 ≤ rank_at (length name) pair) → (pair : Pair) → Contains pairs pair → matches name pair ≡ true
    → Ended name at pairs pair
shorter_than pairs name at part found n end big pair there matching =
    record { there = there; matching = matching; shorter = step (ltb (length (fixed_part pair.key)) at) refl }
  where
    low : (b : Bool) → 2 ≤ cond b 1 0 → ⊥
    low true h = omega (arith, h)
    low false h = omega (arith, h)

    step : (b : Bool) → ltb (length (fixed_part pair.key)) at ≡ b → length (fixed_part pair.key) < at
    step true t = ltb-true _ _ t
    step false t =
        let here = big pair (at_end pairs name at part found pair n end there matching (ltb-false _ _ t)) in
        let most = (matched_prefix name pair matching).0 in
        absurd (low (is_pattern pair.key) (subst (λ r. 2 ≤ r) (rank_past (length name) pair most) here))

-- else it is what is remembered
pub found_is_best : (pairs : List Pair) (name : List ℕ) (at : ℕ) (part : List Pair) (found : Option (Bor Pair)) → Narrowed pairs name at part found
    → at ≡ length name
    → ((pair : Pair) → Contains part pair → 2 ≤ rank_at (length name) pair)
    → MatchOption found ((pair : Pair) → Contains pairs pair → matches name pair ≡ true → ⊥) (λ best. IsBest name pairs best.now)
found_is_best pairs name at part None n end big = λ pair there matching. n.ended pair (shorter_than pairs name at part None n end big pair there matching)
found_is_best pairs name at part (Some best) n end big = record {
  there = n.ended.0.there;
  matching = n.ended.0.matching;
  first = λ other there matching. n.ended.1 other (shorter_than pairs name at part (Some best) n end big other there matching);
}
