-- Two texts compared from a place on, and an address cut at its first star.
use Rattle.std.proofs.Common.{◌≡◌, ℕ, zero, suc, ◌+◌, ◌<◌, ◌≤◌, Bool, true, false, cond, List, [], ◌∷◌, ◌++◌, length, take, drop, get_or, refl, ap, arith, Option}
use Rattle.std.{proofs.Common.{Some, None, Bor, append_assoc, ltb, add-one}, specs.Prelude.{nat_eq, position, Result, Ok, Err, OnOk}}
use Rattle.std.specs.{Cmp.Lexicographic.{slice_cmp}, Ordering.{nat_cmp}, Slice.{IsGetResult}, declared.cmp.Ordering.TheVariants.{Less, Greater}}
use Rattle.std.{proofs.lemmas.List.{drop_more, drop_all}, proofs.lemmas.Bool.{ltb-false}, proofs.lemmas.List.Sums.{fails_before_first}, specs.List.{position_or_len}}
use Rattle.std.proofs.lemmas.List.Quantifiers.{position-Some}
use Rattle.source_link.specs.{Pairs.{star}, Address.{lower, with_rest}}

pub past_end : (xs : List ℕ) (i : ℕ) (r : Option (Bor ℕ)) → IsGetResult xs i i r → r ≡ None → length xs ≤ i
past_end xs i None h e = h.3
past_end xs i (Some x) h e = absurd (cc)

pub longer : (a b : List ℕ) (at : ℕ) → at < length a → length b ≤ at → slice_cmp nat_cmp (lower (drop at a)) (lower (drop at b)) ≡ Greater
longer a b at less past = rw (drop_more a at 0 less, drop_all at b past) refl

pub shorter : (a b : List ℕ) (at : ℕ) → length a ≤ at → at < length b → slice_cmp nat_cmp (lower (drop at a)) (lower (drop at b)) ≡ Less
shorter a b at past less = rw (drop_all at a past, drop_more b at 0 less) refl

-- up to the first star, the rest, and what follows
cut_at : (rest xs : List ℕ) (i : ℕ) → i < length xs → nat_eq (get_or xs i 0) star ≡ true → ((k : ℕ) → k < i → nat_eq (get_or xs k 0) star ≡ false)
    → with_rest rest xs ≡ take i xs ++ (rest ++ with_rest rest (drop (suc i) xs))
cut_at rest [] i less is others = absurd (omega arith)
cut_at rest (x ∷ xs) zero less is others = rw is refl
cut_at rest (x ∷ xs) (suc i) less is others =
    let more = cut_at rest xs i (omega arith) is (λ k below. others (suc k) (omega arith)) in
    rw (others 0 (omega arith)) (ap (λ l. x ∷ l) more)

pub cut_at_star : (rest xs : List ℕ) (i : ℕ) → position (λ b. nat_eq b star) xs ≡ Some i
    → (i < length xs) × (with_rest rest xs ≡ take i xs ++ (rest ++ with_rest rest (drop (i + 1) xs)))
cut_at_star rest xs i is =
    let at = position-Some (λ b. nat_eq b star) xs i 0 is in
    (at.0, rw add-one (cut_at rest xs i at.0 at.1 at.2))

all_kept : (rest xs : List ℕ) → ((k : ℕ) → k < length xs → nat_eq (get_or xs k 0) star ≡ false) → with_rest rest xs ≡ xs
all_kept rest [] others = refl
all_kept rest (x ∷ xs) others = rw (others 0 (omega arith)) (ap (λ l. x ∷ l) (all_kept rest xs (λ k less. others (suc k) (omega arith))))

pub no_star : (rest xs : List ℕ) → position (λ b. nat_eq b star) xs ≡ None → with_rest rest xs ≡ xs
no_star rest xs is = step (ltb (position_or_len (λ b. nat_eq b star) xs) (length xs)) refl is
  where
    step : (b : Bool) → ltb (position_or_len (λ b. nat_eq b star) xs) (length xs) ≡ b → cond b (Some (position_or_len (λ b. nat_eq b star) xs)) None ≡ None
        → with_rest rest xs ≡ xs
    step true e none = absurd (cc)
    step false e none = let past = ltb-false _ _ e in all_kept rest xs (λ k less. fails_before_first (λ b. nat_eq b star) xs k 0 (omega (arith, past, less)))

-- one turn of the walk over the stars
pub one_star : (rest into left prefix next after : List ℕ) → with_rest rest left ≡ prefix ++ (rest ++ with_rest rest next) → after ≡ (into ++ prefix) ++ rest
    → after ++ with_rest rest next ≡ into ++ with_rest rest left
one_star rest into left prefix next after cut put = rw (put, cut) (simp append_assoc)

pub on_ok : {T E P Q : Type 0} (r : Result T E) → (P → Q) → OnOk r P → OnOk r Q
on_ok (Ok x) f h = f h
on_ok (Err e) f h = tt
