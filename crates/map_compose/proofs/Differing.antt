-- The first method whose sizes differ.
use Rattle.std.proofs.Common.{ℕ, zero, suc, ◌≡◌, ◌⊎◌, inl, inr, ◌+◌, ◌<◌, ◌≤◌, Bool, true, false, cond, List, [], ◌∷◌, length, map, refl, sym, ap, ◌∙◌, arith, subst}
use Rattle.std.{proofs.Common.{Option, Some, None}, specs.Prelude.{nat_eq}, specs.List.{find, slice_get}, specs.List.Sorted.{IsStrictlySortedBy}}
use Rattle.std.{specs.Option.{option_map}, proofs.lemmas.Bool.{cases_lt, eqb-true}}
use Rattle.ppdb_maps.{specs.Map.{Map, MethodLine, method_line}, specs.Readable.{IsReadable}, proofs.OneMap.{same_or_apart}}
use Rattle.map_compose.specs.{Composed.{has_image, second_line}, Sizes.{SizesDiffer, SizesAgree, IsFirstDiffering, FirstDiffering, SizesAreJudged}}
use Rattle.ppdb_maps_text.proofs.Orders.{Up, Above, less}

abbrev number : MethodLine → ℕ
number l = l.method

-- what is found stands at an index
find_at : (p : MethodLine → Bool) (ls : List MethodLine) (l : MethodLine) → find p ls ≡ Some l → (j : ℕ) × ((slice_get ls j ≡ Some l) × (p l ≡ true))
find_at p [] l is = absurd (cc)
find_at p (k ∷ ks) l is = of (p k) refl is (λ rest. find_at p ks l rest)
  where
    of : (b : Bool) → p k ≡ b → cond b (Some k) (find p ks) ≡ Some l → (find p ks ≡ Some l → (j : ℕ) × ((slice_get ks j ≡ Some l) × (p l ≡ true)))
        → (j : ℕ) × ((slice_get (k ∷ ks) j ≡ Some l) × (p l ≡ true))
    of true hit is rest = let e : k ≡ l = cc in (0, (is, subst (λ z. p z ≡ true) e hit))
    of false miss is rest = let r = rest is in (suc r.0, (r.1.0, r.1.1))

above_at : (n : ℕ) (ls : List MethodLine) (j : ℕ) (l : MethodLine) → Above n (map number ls) → slice_get ls j ≡ Some l → n < l.method
above_at n [] j l above is = absurd (cc)
above_at n (k ∷ ks) zero l above is = let e : k ≡ l = cc in subst (λ z. n < z.method) e (less n k.method above.0)
above_at n (k ∷ ks) (suc j) l above is = above_at n ks j l above.1 is

-- in order of their indexes
at_up : (ls : List MethodLine) (i j : ℕ) (l k : MethodLine) → Up (map number ls) → i ≤ j → slice_get ls i ≡ Some l → slice_get ls j ≡ Some k
    → l.method ≤ k.method
unfolding IsStrictlySortedBy
at_up [] i j l k up le a b = absurd (cc)
at_up (x ∷ xs) zero zero l k up le a b = let e : Some l ≡ Some k = sym a ∙ b in let same : l ≡ k = cc in subst (λ z. l.method ≤ z.method) same (omega arith)
at_up (x ∷ xs) zero (suc j) l k up le a b = let e : x ≡ l = cc in let h =
    above_at x.method xs j k up.0 b in subst (λ z. z.method ≤ k.method) e (omega (arith, h))
at_up (x ∷ xs) (suc i) zero l k up le a b = absurd (omega (arith, le))
at_up (x ∷ xs) (suc i) (suc j) l k up le a b = at_up xs i j l k up.1 (omega (arith, le)) a b

index_of : (f s : Map) (method a b : ℕ) → SizesDiffer f s method a b → (j : ℕ) × ((l : MethodLine) × ((slice_get f.methods j ≡ Some l) × (l.method ≡ method)))
index_of f s method a b differ =
    let at = find_at (λ l. nat_eq l.method method) f.methods differ.a differ.before in
    (at.0, (differ.a, (at.1.0, eqb-true differ.a.method method at.1.1)))

-- none of the first methods
abbrev pub NoneOf : Map → Map → ℕ → Type 0
NoneOf f s index = (j : ℕ) (l : MethodLine) → j < index → slice_get f.methods j ≡ Some l → (a b : ℕ) → SizesDiffer f s l.method a b → ⊥

line_of : (ls : List MethodLine) (i method : ℕ) → option_map number (slice_get ls i) ≡ Some method
    → (l : MethodLine) × ((slice_get ls i ≡ Some l) × (l.method ≡ method))
line_of ls i method is = of (slice_get ls i) refl is
  where
    of : (o : Option MethodLine) → slice_get ls i ≡ o → option_map number o ≡ Some method → (l : MethodLine) × ((slice_get ls i ≡ Some l) × (l.method ≡ method))
    of None at is = absurd (cc)
    of (Some l) at is = let e : l.method ≡ method = cc in (l, (at, e))

pub line_inside : (ls : List MethodLine) (i method : ℕ) → option_map (λ (l : MethodLine). l.method) (slice_get ls i) ≡ Some method → i < length ls
line_inside [] i method is = absurd (cc)
line_inside (l ∷ ls) zero method is = omega arith
line_inside (l ∷ ls) (suc i) method is = omega (arith, line_inside ls i method is)

pub none_next : (f s : Map) (index method : ℕ) → option_map (λ (l : MethodLine). l.method) (slice_get f.methods index) ≡ Some method
    → ((a b : ℕ) → SizesDiffer f s method a b → ⊥) → NoneOf f s index → NoneOf f s (index + 1)
none_next f s index method is agree none j l below at a b differ = elim (cases_lt j index) [
  | inl earlier ↦ none j l earlier at a b differ
  | inr later ↦
      let line = line_of f.methods index method is in
      let same : j ≡ index = omega (arith, later, below) in
      let e : Some l ≡ Some line.0 = sym at ∙ ap (slice_get f.methods) same ∙ line.1.0 in
      let one : l ≡ line.0 = cc in
      agree a b (subst (λ m. SizesDiffer f s m a b) (ap number one ∙ line.1.1) differ)
]

past_none : (ls : List MethodLine) (i j : ℕ) (l : MethodLine) → option_map number (slice_get ls i) ≡ None → slice_get ls j ≡ Some l → j < i
past_none [] i j l none is = absurd (cc)
past_none (k ∷ ks) zero j l none is = absurd (cc)
past_none (k ∷ ks) (suc i) zero l none is = omega arith
past_none (k ∷ ks) (suc i) (suc j) l none is = omega (arith, past_none ks i j l none is)

pub none_all : (f s : Map) (index : ℕ) → option_map (λ (l : MethodLine). l.method) (slice_get f.methods index) ≡ None → NoneOf f s index → SizesAgree f s
none_all f s index past none method a b differ =
    let at = index_of f s method a b differ in
    none at.0 at.1.0 (past_none f.methods index at.0 at.1.0 past at.1.1.0) at.1.1.0 a b (subst (λ m. SizesDiffer f s m a b) (sym at.1.1.1) differ)

pub first_is : (f s : Map) (index method first second : ℕ) → IsReadable f → option_map (λ (l : MethodLine). l.method) (slice_get f.methods index) ≡ Some method
    → SizesDiffer f s method first second → NoneOf f s index → IsFirstDiffering f s method first second
first_is f s index method first second readable is differ none = record {
  differ = differ;
  least = λ other a b found.
      let line = line_of f.methods index method is in
      let at = index_of f s other a b found in
      elim (cases_lt at.0 index) [
        | inl earlier ↦ absurd (none at.0 at.1.0 earlier at.1.1.0 a b (subst (λ m. SizesDiffer f s m a b) (sym at.1.1.1) found))
        | inr later ↦
            let le = at_up f.methods index at.0 line.0 at.1.0 readable.ascends.methods later line.1.0 at.1.1.0 in
            let p = line.1.1 in let q = at.1.1.1 in omega (arith, le, p, q)
      ];
}

-- ---- the sizes are judged

record Differs (f s : Map) (method : ℕ) : Type 0 where
  first : ℕ
  second : ℕ
  is : SizesDiffer f s method first second

judge_one : (f s : Map) (method : ℕ) → Differs f s method ⊎ ((a b : ℕ) → SizesDiffer f s method a b → ⊥)
judge_one f s method = of (has_image f s method) (method_line f method) (second_line f s method) refl refl refl
  where
    by : (a b : MethodLine) → has_image f s method ≡ true → method_line f method ≡ Some a → second_line f s method ≡ Some b
        → (a.new_size ≡ b.old_size) ⊎ (a.new_size ≡ b.old_size → ⊥) → Differs f s method ⊎ ((x y : ℕ) → SizesDiffer f s method x y → ⊥)
    by a b there before after (inr differ) =
        inl (record {
          first = a.new_size;
          second = b.old_size;
          is =
              record { a = a; b = b; there = there; before = before; after = after; sizes = (refl, refl, differ) };
        })
    by a b there before after (inl same) = inr (λ x y found.
        let p : Some a ≡ Some found.a = sym before ∙ found.before in
        let q : Some b ≡ Some found.b = sym after ∙ found.after in
        let one : a ≡ found.a = cc in
        let two : b ≡ found.b = cc in
        found.sizes.2 (sym found.sizes.0 ∙ (ap (λ (l : MethodLine). l.new_size) (sym one)
        ∙ (same ∙ (ap (λ (l : MethodLine). l.old_size) two ∙ found.sizes.1)))))

    of : (t : Bool) (o p : Option MethodLine) → has_image f s method ≡ t → method_line f method ≡ o → second_line f s method ≡ p
        → Differs f s method ⊎ ((a b : ℕ) → SizesDiffer f s method a b → ⊥)
    of false o p there before after = inr (λ a b found. let e : false ≡ true = sym there ∙ found.there in absurd (cc))
    of true None p there before after = inr (λ a b found. let e : None ≡ Some found.a = sym before ∙ found.before in absurd (cc))
    of true (Some l) None there before after = inr (λ a b found. let e : None ≡ Some found.b = sym after ∙ found.after in absurd (cc))
    of true (Some l) (Some k) there before after = by l k there before after (same_or_apart l.new_size k.old_size)

there_is : (ls : List MethodLine) (i : ℕ) → i < length ls → (l : MethodLine) × (slice_get ls i ≡ Some l)
there_is [] i less = absurd (omega (arith, less))
there_is (l ∷ ls) zero less = (l, refl)
there_is (l ∷ ls) (suc i) less = there_is ls i (omega (arith, less))

past_is : (ls : List MethodLine) (i : ℕ) → length ls ≤ i → slice_get ls i ≡ None
past_is [] i le = refl
past_is (l ∷ ls) zero le = absurd (omega (arith, le))
past_is (l ∷ ls) (suc i) le = past_is ls i (omega (arith, le))

judge_from : (f s : Map) → IsReadable f → (left i : ℕ) → i + left ≡ length f.methods → NoneOf f s i → SizesAgree f s ⊎ FirstDiffering f s
judge_from f s readable zero i is none = inl (none_all f s i (ap (option_map (λ (l : MethodLine). l.method)) (past_is f.methods i (omega (arith, is)))) none)
judge_from f s readable (suc left) i is none =
    let line = there_is f.methods i (omega (arith, is)) in
    let numbered = ap (option_map (λ (l : MethodLine). l.method)) line.1 in
    next line.0.method numbered (judge_one f s line.0.method) (judge_from f s readable left (i + 1) (omega (arith, is)))
  where
    next : (method : ℕ) → option_map (λ (l : MethodLine). l.method) (slice_get f.methods i) ≡ Some method
        → Differs f s method ⊎ ((a b : ℕ) → SizesDiffer f s method a b → ⊥) → (NoneOf f s (i + 1) → SizesAgree f s ⊎ FirstDiffering f s)
        → SizesAgree f s ⊎ FirstDiffering f s
    next method numbered (inl differs) rest =
        inr (record {
          method = method;
          first = differs.first;
          second = differs.second;
          is =
              first_is f s i method differs.first differs.second readable numbered differs.is none;
        })
    next method numbered (inr agree) rest = rest (none_next f s i method numbered agree none)

one_first : (f s : Map) (method first second other a b : ℕ) → IsFirstDiffering f s method first second → IsFirstDiffering f s other a b
    → (method ≡ other) × (first ≡ a) × (second ≡ b)
one_first f s method first second other a b this that =
    let le = this.least other a b that.differ in
    let ge = that.least method first second this.differ in
    let same : method ≡ other = omega (arith, le, ge) in
    let moved : SizesDiffer f s method a b = subst (λ m. SizesDiffer f s m a b) (sym same) that.differ in
    let p : Some this.differ.a ≡ Some moved.a = sym this.differ.before ∙ moved.before in
    let q : Some this.differ.b ≡ Some moved.b = sym this.differ.after ∙ moved.after in
    let one : this.differ.a ≡ moved.a = cc in
    let two : this.differ.b ≡ moved.b = cc in (
      same,
      sym this.differ.sizes.0 ∙ (ap (λ (l : MethodLine). l.new_size) one ∙ moved.sizes.0),
      sym this.differ.sizes.1 ∙ (ap (λ (l : MethodLine). l.old_size) two ∙ moved.sizes.1),
    )

pub sizes_are_judged : SizesAreJudged
sizes_are_judged = record {
  judged = λ f s readable. judge_from f s readable (length f.methods) 0 (omega arith) (λ j l below. absurd (omega (arith, below)));
  one = one_first;
  apart = λ f s method first second agree this. agree method first second this.differ;
}
