-- Keys that are noted in a set, one by one.
use Rattle.std.proofs.Common.{◌≡◌, ℕ, ◌+◌, ◌<◌, List, length, get_or, map, take, Bool, true, false, cond, ◌||◌, refl, sym, ap, ◌∙◌, arith, inl, inr, ◌↔◌, ◌≢◌}
use Rattle.std.specs.{Prelude.{AllPairs}, BTreeSet.{BTreeSet, contains, Updates}, List.{list_any}, declared.cmp.Ordering.{Ordering}, Cmp.Lexicographic.{slice_cmp}}
use Rattle.std.{specs.Ordering.{is_eq, nat_cmp}, proofs.lemmas.Bool.Decides.{nat_tests}, proofs.lemmas.List.{get_or_read, get_or-map, get_or-take, length-map}}
use Rattle.std.proofs.lemmas.{List.{length-take}, List.Folds.{Any-from_list_any, list_any_at, list_any_more}, Map.Text.{is_eq-slice_cmp}, Option.{slice_get_cases}}
use Rattle.std.proofs.lemmas.Slice.Eq.{bytes_eq-Decides}
use Rattle.ppdb_values_check.specs.Pairs.{AreApart, PrefixStands}

either : (b c : Bool) → cond b true c ≡ (c || b)
either true true = refl
either true false = refl
either false true = refl
either false false = refl

not_true : (b : Bool) → (b ≡ true → ⊥) → b ≡ false
not_true true wrong = absurd (wrong refl)
not_true false wrong = refl

module _ {K : Type 0} (cmp : K → K → Ordering) (keys : List K) (i : ℕ) (key : K) (inside : i < length keys) (is : key ≡ get_or keys i key)
    (old : BTreeSet K) (seen : (q : K) → contains cmp old q ≡ list_any (λ k. is_eq (cmp k q)) (take i keys)) where
  -- a key that the set has is repeated
  pub repeated : contains cmp old key ≡ true → AllPairs (AreApart cmp) keys → ⊥
  repeated has apart =
      let found = Any-from_list_any (λ k. is_eq (cmp k key)) (take i keys) (sym (seen key) ∙ has) in
      let before : found.0 < i = omega (arith, found.2, length-take i keys) in
      let first : get_or keys found.0 found.1 ≡ found.1 = sym (get_or-take i keys found.0 found.1 before) ∙ found.3 in
      let second : key ≡ get_or keys i found.1 = get_or_read keys i key inside is found.1 in
      let equal : is_eq (cmp found.1 key) ≡ true = found.4 in
      let differ : is_eq (cmp (get_or keys found.0 found.1) (get_or keys i found.1)) ≡ false = apart found.0 i found.1 before inside in
      let differ_here : is_eq (cmp found.1 key) ≡ false = rw (first, ← second) at differ in
      cc

  -- a key that the set lacks differs from all before it
  pub differs : contains cmp old key ≡ false → PrefixStands (AreApart cmp) keys i i
  differs lacks k d before = not_true (is_eq (cmp (get_or keys k d) (get_or keys i d)))
      (λ equal.
      let second : key ≡ get_or keys i d = get_or_read keys i key inside is d in
      let here : is_eq (cmp (get_or (take i keys) k d) key) ≡ true = rw (get_or-take i keys k d before, second) equal in
      let has : list_any (λ k. is_eq (cmp k key)) (take i keys) ≡ true =
      list_any_at (λ k. is_eq (cmp k key)) (take i keys) k d (omega (arith, length-take i keys)) here in
      let none : list_any (λ k. is_eq (cmp k key)) (take i keys) ≡ false = sym (seen key) ∙ lacks in
      let wrong : true ≡ false = sym has ∙ none in
      cc)

  -- the set with the key has one key more
  pub seen_next : (new : BTreeSet K) → Updates cmp old new key true → (q : K) → contains cmp new q ≡ list_any (λ k. is_eq (cmp k q)) (take (i + 1) keys)
  seen_next new updates q =
      let more = list_any_more (λ k. is_eq (cmp k q)) keys i key inside in
      let here : is_eq (cmp (get_or keys i key) q) ≡ is_eq (cmp key q) = ap (λ k. is_eq (cmp k q)) (sym is) in
      updates.0 q ∙ (ap (λ b. cond (is_eq (cmp key q)) true b) (seen q) ∙ (either (is_eq (cmp key q)) (list_any (λ k. is_eq (cmp k q)) (take i keys))
      ∙ (ap (λ b. list_any (λ k. is_eq (cmp k q)) (take i keys) || b) (sym here) ∙ sym more)))

-- items differ in what their keys stand for
module _ {K V T : Type 0} (cmp : K → K → Ordering) (view : K → V) (name : T → V) (keys : List K) (items : List T)
    (same : map view keys ≡ map name items) (decides : (a b : K) → (is_eq (cmp a b) ≡ true) ↔ (view a ≡ view b)) where
  as_many : length keys ≡ length items
  as_many = sym (length-map keys view) ∙ (ap length same ∙ length-map items name)

  stands_for : (i : ℕ) (k : K) (t : T) → i < length keys → view (get_or keys i k) ≡ name (get_or items i t)
  stands_for i k t inside =
      sym (get_or-map view keys i k (view k) inside)
      ∙ (ap (λ vs. get_or vs i (view k)) same ∙ get_or-map name items i t (view k) (omega (arith, inside, as_many)))

  some_at : {X : Type 0} (xs : List X) (i : ℕ) → i < length xs → X
  some_at xs i inside = elim (slice_get_cases xs i).1 [ inl x ↦ x.0 | inr past ↦ absurd (omega (arith, inside, past.0)) ]

  pub names_by_keys : AllPairs (AreApart cmp) keys ↔ AllPairs (λ a b. name a ≢ name b) items
  names_by_keys = (
    (λ apart i j t lt inside equal.
        let k = some_at keys j (omega (arith, inside, as_many)) in
        let first = stands_for i k t (omega (arith, lt, inside, as_many)) in
        let second = stands_for j k t (omega (arith, inside, as_many)) in
        let yes : is_eq (cmp (get_or keys i k) (get_or keys j k)) ≡ true = (decides (get_or keys i k) (get_or keys j k)).1 (first ∙ (equal ∙ sym second)) in
        let denied : is_eq (cmp (get_or keys i k) (get_or keys j k)) ≡ false = apart i j k lt (omega (arith, inside, as_many)) in
        cc),
    (λ differ i j k lt inside. not_true (is_eq (cmp (get_or keys i k) (get_or keys j k)))
        (λ equal.
        let t = some_at items j (omega (arith, inside, as_many)) in
        let first = stands_for i k t (omega (arith, lt, inside)) in
        let second = stands_for j k t inside in
        differ i j t lt (omega (arith, inside, as_many)) (sym first ∙ ((decides (get_or keys i k) (get_or keys j k)).0 equal ∙ second)))),
  )

-- what the orders of texts and of numbers decide
pub text_decides : (a b : List ℕ) → (is_eq (slice_cmp nat_cmp a b) ≡ true) ↔ (a ≡ b)
text_decides a b = (
  (λ equal. (bytes_eq-Decides a b).0 (sym (is_eq-slice_cmp a b) ∙ equal)),
  (λ same. is_eq-slice_cmp a b ∙ (bytes_eq-Decides a b).1 same),
)

pub number_decides : (a b : ℕ) → (is_eq (nat_cmp a b) ≡ true) ↔ (a ≡ b)
number_decides a b = ((λ equal. grind (arith, nat_tests)), (λ same. grind (arith, nat_tests)))
