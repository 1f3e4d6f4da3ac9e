-- What the lines before one answer, where the entries from there on are still ahead, and all of them together answer as the map does.
use Rattle.std.{proofs.Common.{ℕ, ◌≡◌, ◌||◌, Bool, true, false, cond, List, [], ◌∷◌, Option, Some, None, refl, sym, ◌∙◌, ap, map, subst}, specs.Prelude.{nat_eq}}
use Rattle.std.specs.{Prelude.{is_some}, List.{find, list_any, AllByRecursion}, List.Sorted.{IsStrictlySortedBy}, Option.{option_map, option_or}, Ordering.{nat_cmp}}
use Rattle.std.specs.{Ordering.{ordering_reverse}, Cmp.{IsTotalOrder}, declared.cmp.Ordering.{Ordering}, declared.cmp.Ordering.TheVariants.{Less, Equal, Greater}}
use Rattle.std.proofs.lemmas.{Bool.{false≢true, eqb-true, eq-eqb}, Cmp.{nat_cmp_total, nat_eq_equiv}}

-- what is answered is below all that is ahead, and what is answered or ahead is what all answer
pub record Ahead {X K V : Type 0} (key : X → K) (val : X → V) (same : K → K → Bool) (cmp : K → K → Ordering) (answers : K → Option V) (xs : List X)
    (all : K → Option V) : Type 0 where
  pub sorted : IsStrictlySortedBy cmp (map key xs)
  pub below : (k : K) → is_some (answers k) ≡ true → AllByRecursion (λ y. cmp k y ≡ Less) (map key xs)
  pub whole : (k : K) → option_or (answers k) (option_map val (find (λ x. same (key x) k) xs)) ≡ all k

-- answers that are the same
pub ahead_same : {X K V : Type 0} (key : X → K) (val : X → V) (same : K → K → Bool) (cmp : K → K → Ordering) (answers others : K → Option V) (xs : List X)
    (all : K → Option V) → ((k : K) → answers k ≡ others k) → Ahead key val same cmp answers xs all → Ahead key val same cmp others xs all
ahead_same key val same cmp answers others xs all is ahead = record {
  sorted = ahead.sorted;
  below = λ k some. ahead.below k (ap is_some (is k) ∙ some);
  whole = λ k. sym (ap (λ o. option_or o (option_map val (find (λ x. same (key x) k) xs))) (is k)) ∙ ahead.whole k;
}

never_both : (o : Ordering) → o ≡ Less → ordering_reverse o ≡ Less → ⊥
never_both Less a b = absurd (cc)
never_both Equal a b = absurd (cc)
never_both Greater a b = absurd (cc)

or_none : {V : Type 0} (o : Option V) → option_or o None ≡ o
or_none None = refl
or_none (Some v) = refl

module _ {X K V : Type 0} (key : X → K) (val : X → V) (same : K → K → Bool) (cmp : K → K → Ordering)
    (is_same : (a b : K) → same a b ≡ true → a ≡ b) (total : IsTotalOrder cmp) where
  not_itself : (k : K) → cmp k k ≡ Less → ⊥
  not_itself k less = never_both (cmp k k) less (sym (total.antisymm k k) ∙ less)

  -- none ahead has a key that is below them
  pub none_ahead : (k : K) (xs : List X) → AllByRecursion (λ y. cmp k y ≡ Less) (map key xs) → find (λ x. same (key x) k) xs ≡ None
  none_ahead k [] below = refl
  none_ahead k (x ∷ xs) below = step (same (key x) k) refl (none_ahead k xs below.1)
    where
      step : (b : Bool) → same (key x) k ≡ b → find (λ x. same (key x) k) xs ≡ None → cond b (Some x) (find (λ x. same (key x) k) xs) ≡ None
      step false miss rest = rest
      step true hit rest = absurd (not_itself k (subst (λ j. cmp k j ≡ Less) (is_same (key x) k hit) below.0))

  pub starts : (xs : List X) → IsStrictlySortedBy cmp (map key xs)
      → Ahead key val same cmp (λ k. None) xs (λ k. option_map val (find (λ x. same (key x) k) xs))
  starts xs sorted = record { sorted = sorted; below = λ k some. absurd (false≢true some); whole = λ k. refl }

  -- the next one is not yet answered
  pub not_yet : (answers : K → Option V) (x : X) (xs : List X) (all : K → Option V) → Ahead key val same cmp answers (x ∷ xs) all
      → is_some (answers (key x)) ≡ false
  not_yet answers x xs all ahead = of (is_some (answers (key x))) refl
    where
      of : (b : Bool) → is_some (answers (key x)) ≡ b → b ≡ false
      of false is = refl
      of true is = absurd (not_itself (key x) (ahead.below (key x) is).0)

  none_if : (o : Option V) → is_some o ≡ false → o ≡ None
  none_if None is = refl
  none_if (Some v) is = absurd (false≢true (sym is))

  -- the next one is answered
  pub steps : (answers : K → Option V) (x : X) (xs : List X) (all : K → Option V) → Ahead key val same cmp answers (x ∷ xs) all
      → Ahead key val same cmp (λ k. cond (same (key x) k) (Some (val x)) (answers k)) xs all
  unfolding IsStrictlySortedBy
  steps answers x xs all ahead = record {
    sorted = ahead.sorted.1;
    below = λ k some. below k (same (key x) k) refl some;
    whole = λ k. whole k (same (key x) k) refl (ahead.whole k);
  }
    where
      below : (k : K) (b : Bool) → same (key x) k ≡ b → is_some (cond b (Some (val x)) (answers k)) ≡ true
          → AllByRecursion (λ y. cmp k y ≡ Less) (map key xs)
      below k true hit some = subst (λ j. AllByRecursion (λ y. cmp j y ≡ Less) (map key xs)) (is_same (key x) k hit) ahead.sorted.0
      below k false miss some = (ahead.below k some).1

      whole : (k : K) (b : Bool) → same (key x) k ≡ b
          → option_or (answers k) (option_map val (cond b (Some x) (find (λ x. same (key x) k) xs))) ≡ all k
          → option_or (cond b (Some (val x)) (answers k)) (option_map val (find (λ x. same (key x) k) xs)) ≡ all k
      whole k true hit before =
          let new : answers (key x) ≡ None = none_if (answers (key x)) (not_yet answers x xs all ahead) in
          let none : answers k ≡ None = subst (λ j. answers j ≡ None) (is_same (key x) k hit) new in
          sym (ap (λ o. option_or o (Some (val x))) none) ∙ before
      whole k false miss before = before

  pub ends : (answers : K → Option V) (all : K → Option V) → Ahead key val same cmp answers [] all → (k : K) → answers k ≡ all k
  ends answers all ahead k = sym (or_none (answers k)) ∙ ahead.whole k

  -- what all do not answer is not answered before
  pub not_before : (answers : K → Option V) (xs : List X) (all : K → Option V) → Ahead key val same cmp answers xs all → (k : K) → is_some (all k) ≡ false
      → is_some (answers k) ≡ false
  not_before answers xs all ahead k none = of (answers k) (ahead.whole k)
    where
      of : (o : Option V) → option_or o (option_map val (find (λ x. same (key x) k) xs)) ≡ all k → is_some o ≡ false
      of None is = refl
      of (Some v) is = ap is_some is ∙ none

  -- what all answer and is not ahead is answered before
  pub before : (answers : K → Option V) (xs : List X) (all : K → Option V) → Ahead key val same cmp answers xs all → (k : K) → is_some (all k) ≡ true
      → find (λ x. same (key x) k) xs ≡ None → is_some (answers k) ≡ true
  before answers xs all ahead k some none =
      ap is_some (sym (or_none (answers k)) ∙ (sym (ap (λ o. option_or (answers k) (option_map val o)) none) ∙ ahead.whole k)) ∙ some

-- the same of numbers that are answered by yes and no
pub record AheadOf (answers : ℕ → Bool) (xs : List ℕ) (all : ℕ → Bool) : Type 0 where
  pub sorted : IsStrictlySortedBy nat_cmp xs
  pub below : (k : ℕ) → answers k ≡ true → AllByRecursion (λ y. nat_cmp k y ≡ Less) xs
  pub whole : (k : ℕ) → (answers k || list_any (nat_eq k) xs) ≡ all k

pub ahead_of_same : (answers others : ℕ → Bool) (xs : List ℕ) (all : ℕ → Bool) → ((k : ℕ) → answers k ≡ others k) → AheadOf answers xs all
    → AheadOf others xs all
ahead_of_same answers others xs all is ahead = record {
  sorted = ahead.sorted;
  below = λ k some. ahead.below k (is k ∙ some);
  whole = λ k. sym (ap (λ b. b || list_any (nat_eq k) xs) (is k)) ∙ ahead.whole k;
}

pub number_not_itself : (k : ℕ) → nat_cmp k k ≡ Less → ⊥
number_not_itself k less = never_both (nat_cmp k k) less (sym (nat_cmp_total.antisymm k k) ∙ less)

pub starts_of : (xs : List ℕ) → IsStrictlySortedBy nat_cmp xs → AheadOf (λ k. false) xs (λ k. list_any (nat_eq k) xs)
starts_of xs sorted = record { sorted = sorted; below = λ k is. absurd (false≢true is); whole = λ k. refl }

pub not_yet_of : (answers : ℕ → Bool) (x : ℕ) (xs : List ℕ) (all : ℕ → Bool) → AheadOf answers (x ∷ xs) all → answers x ≡ false
not_yet_of answers x xs all ahead = of (answers x) refl
  where
    of : (b : Bool) → answers x ≡ b → b ≡ false
    of false is = refl
    of true is = absurd (number_not_itself x (ahead.below x is).0)

or_true : (b : Bool) → (b || true) ≡ true
or_true true = refl
or_true false = refl

or_false : (b : Bool) → (b || false) ≡ b
or_false true = refl
or_false false = refl

pub steps_of : (answers : ℕ → Bool) (x : ℕ) (xs : List ℕ) (all : ℕ → Bool) → AheadOf answers (x ∷ xs) all
    → AheadOf (λ k. cond (nat_eq x k) true (answers k)) xs all
unfolding IsStrictlySortedBy
steps_of answers x xs all ahead = record {
  sorted = ahead.sorted.1;
  below = λ k is. below k (nat_eq x k) refl is;
  whole = λ k. whole k (nat_eq x k) (nat_eq_equiv.symm k x) (ahead.whole k);
}
  where
    below : (k : ℕ) (b : Bool) → nat_eq x k ≡ b → cond b true (answers k) ≡ true → AllByRecursion (λ y. nat_cmp k y ≡ Less) xs
    below k true hit is = subst (λ j. AllByRecursion (λ y. nat_cmp j y ≡ Less) xs) (eqb-true x k hit) ahead.sorted.0
    below k false miss is = (ahead.below k is).1

    whole : (k : ℕ) (b : Bool) → nat_eq k x ≡ b → (answers k || (nat_eq k x || list_any (nat_eq k) xs)) ≡ all k
        → (cond b true (answers k) || list_any (nat_eq k) xs) ≡ all k
    whole k true hit held = sym (or_true (answers k)) ∙ (sym (ap (λ b. answers k || (b || list_any (nat_eq k) xs)) hit) ∙ held)
    whole k false miss held = sym (ap (λ b. answers k || (b || list_any (nat_eq k) xs)) miss) ∙ held

pub ends_of : (answers : ℕ → Bool) (all : ℕ → Bool) → AheadOf answers [] all → (k : ℕ) → answers k ≡ all k
ends_of answers all ahead k = sym (or_false (answers k)) ∙ ahead.whole k

pub not_before_of : (answers : ℕ → Bool) (xs : List ℕ) (all : ℕ → Bool) → AheadOf answers xs all → (k : ℕ) → all k ≡ false → answers k ≡ false
not_before_of answers xs all ahead k never = of (answers k) (ahead.whole k)
  where
    of : (b : Bool) → (b || list_any (nat_eq k) xs) ≡ all k → b ≡ false
    of false is = refl
    of true is = is ∙ never

-- the first one ahead is one of all
pub one_of : (answers : ℕ → Bool) (x : ℕ) (xs : List ℕ) (all : ℕ → Bool) → AheadOf answers (x ∷ xs) all → all x ≡ true
one_of answers x xs all ahead =
    sym (ahead.whole x) ∙ (ap (λ b. answers x || (b || list_any (nat_eq x) xs)) (eq-eqb x x refl) ∙ or_true (answers x))

pub none_of_them : (k : ℕ) (xs : List ℕ) → AllByRecursion (λ y. nat_cmp k y ≡ Less) xs → list_any (nat_eq k) xs ≡ false
none_of_them k [] below = refl
none_of_them k (x ∷ xs) below = of (nat_eq k x) refl (none_of_them k xs below.1)
  where
    of : (b : Bool) → nat_eq k x ≡ b → list_any (nat_eq k) xs ≡ false → (b || list_any (nat_eq k) xs) ≡ false
    of false miss rest = rest
    of true hit rest = absurd (number_not_itself k (subst (λ j. nat_cmp k j ≡ Less) (sym (eqb-true k x hit)) below.0))

pub before_of : (answers : ℕ → Bool) (xs : List ℕ) (all : ℕ → Bool) → AheadOf answers xs all → (k : ℕ) → all k ≡ true → list_any (nat_eq k) xs ≡ false
    → answers k ≡ true
before_of answers xs all ahead k there none =
    sym (or_false (answers k)) ∙ (sym (ap (λ b. answers k || b) none) ∙ (ahead.whole k ∙ there))
