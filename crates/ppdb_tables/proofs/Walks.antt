-- Chains of parents: a chain that comes back to a row never ends.
use Rattle.std.proofs.Common.{◌≡◌, ℕ, ◌+◌, ◌-◌, ◌<◌, ◌≤◌, ◌≢◌, List, length, get_or, None, refl, sym, subst, ap, ◌∙◌, arith, inl, inr, zero, suc, true, false}
use Rattle.std.proofs.{Common.{IsTrue, ◌↔◌, replicate}, lemmas.Bool.{cases_lt, cases_eq}, lemmas.List.{get_or-set_same, get_or-set_other, length-set}}
use Rattle.std.{proofs.lemmas.List.{get_or-replicate, length-replicate}, proofs.lemmas.Option.{slice_get_past}, proofs.Math.ListN.{set}, specs.Prelude.{Some}}
use Rattle.std.specs.Prelude.{slice_get}
use Rattle.ppdb_tables.specs.{RawTables.{row_at}, Chains.{NeverEnds, ancestor_of, parent_at}, Marks.{Ends, MarksEnd, WalksTo}}

module _ (parent : ℕ → ℕ) (top : parent 0 ≡ 0) where
  -- a walk of two parts
  ancestor-+ : (x a b : ℕ) → ancestor_of parent x (a + b) ≡ ancestor_of parent (ancestor_of parent x a) b
  ancestor-+ x zero b = ap (λ n. ancestor_of parent x n) (let e : 0 + b ≡ b = omega arith in e)
  ancestor-+ x (suc a) b = ap (λ n. ancestor_of parent x n) (let e : suc a + b ≡ suc (a + b) = omega arith in e) ∙ ancestor-+ (parent x) a b

  -- past the end there is nothing
  ancestor-zero : (a : ℕ) → ancestor_of parent 0 a ≡ 0
  ancestor-zero zero = refl
  ancestor-zero (suc a) = ap (λ n. ancestor_of parent n a) top ∙ ancestor-zero a

  -- a chain that leads to one that ends does too
  ends_back : (x y d : ℕ) → ancestor_of parent x d ≡ y → Ends parent y → Ends parent x
  ends_back x y d e (steps, z) = (d + steps, ancestor-+ x d steps ∙ (ap (λ n. ancestor_of parent n steps) e ∙ z))

  -- a chain that ends by some step is at 0 from then on
  stays : (x a b : ℕ) → ancestor_of parent x a ≡ 0 → a ≤ b → ancestor_of parent x b ≡ 0
  stays x a b z le = ap (λ n. ancestor_of parent x n) (let e : b ≡ a + (b - a) = omega arith in e)
      ∙ (ancestor-+ x a (b - a) ∙ (ap (λ n. ancestor_of parent n (b - a)) z ∙ ancestor-zero (b - a)))

  cycle : (x d fuel : ℕ) → x ≢ 0 → ancestor_of parent x (suc d) ≡ x → (k : ℕ) → k < fuel → ancestor_of parent x k ≢ 0
  cycle x d zero nz back k lt z = omega (arith, lt)
  cycle x d (suc fuel) nz back k lt z = elim (cases_lt k (suc d)) [
    | inl before ↦ nz (sym back ∙ stays x k (suc d) z (omega arith))
    | inr past ↦ cycle x d fuel nz back (k - suc d) (omega (arith, lt, past))
        (ap (λ n. ancestor_of parent n (k - suc d)) (sym back)
        ∙ (sym (ancestor-+ x (suc d) (k - suc d)) ∙ (ap (λ n. ancestor_of parent x n) (let e : suc d + (k - suc d) ≡ k = omega (arith, past) in e) ∙ z)))
  ]

  -- a chain that leads to a row which leads back to itself never ends
  never_from : (r x d e : ℕ) → x ≢ 0 → ancestor_of parent r d ≡ x → ancestor_of parent x (suc e) ≡ x → NeverEnds parent r
  never_from r x d e nz to back steps z = elim (cases_lt d steps) [
    | inl lt ↦ cycle x e (suc (steps - d)) nz back (steps - d) (omega arith)
        (ap (λ n. ancestor_of parent n (steps - d)) (sym to)
        ∙ (sym (ancestor-+ r d (steps - d)) ∙ (ap (λ n. ancestor_of parent r n) (let s : d + (steps - d) ≡ steps = omega (arith, lt) in s) ∙ z)))
    | inr ge ↦ nz (sym to ∙ stays r steps d z ge)
  ]

  -- one more step at the end
  ancestor-next : (x d : ℕ) → ancestor_of parent x (suc d) ≡ parent (ancestor_of parent x d)
  ancestor-next x zero = refl
  ancestor-next x (suc d) = ancestor-next (parent x) d

  module _ (rows row place : ℕ) (marks : List ℕ) (walk : WalksTo parent rows row place marks) where
    -- a walk that comes to an end
    pub row_ends : Ends parent place → Ends parent row
    row_ends e = ends_back row place walk.reached.0 walk.reached.1 e

    pub marks_end : Ends parent place → MarksEnd parent rows (row + 1) marks
    marks_end e = record {
      one_each = walk.one_each;
      earlier = λ index within. let u = walk.up_to index within in omega (arith, u);
      ends = λ index within marked. elim (cases_eq (get_or marks index 0) row) [
        | inl same ↦ let p = walk.passed index within same in ends_back (suc index) place (suc p.0) p.1 e
        | inr other ↦ walk.ends index within marked other
      ];
    }

    -- a walk that comes back to a place that it passed
    pub walk_cycles : place ≢ 0 → place - 1 < length marks → get_or marks (place - 1) 0 ≡ row → NeverEnds parent row
    walk_cycles there within same =
        let p = walk.passed (place - 1) within same in
        let e : suc (place - 1) ≡ place = omega (arith, there) in
        never_from row place walk.reached.0 p.0 there walk.reached.1 (subst (λ n. ancestor_of parent n (suc p.0) ≡ place) e p.1)

    -- a walk that comes to a place that an earlier walk passed
    pub joins_end : place ≢ 0 → place - 1 < length marks → get_or marks (place - 1) 0 ≢ 0 → get_or marks (place - 1) 0 ≢ row → Ends parent place
    joins_end there within marked other =
        subst (λ n. Ends parent n) (let e : suc (place - 1) ≡ place = omega (arith, there) in e) (walk.ends (place - 1) within marked other)

    -- one step of a walk
    pub walk_on : (next : ℕ) → parent place ≡ next → 0 < place → place - 1 < length marks → WalksTo parent rows row next (set marks (place - 1) row)
    walk_on next up numbered within =
        let shape : length (set marks (place - 1) row) ≡ length marks = length-set marks (place - 1) row in
        record {
          one_each = shape ∙ walk.one_each;
          up_to = λ index short. elim (cases_eq index (place - 1)) [
            | inl same ↦ rw (same, get_or-set_same marks (place - 1) row 0 within) (omega arith)
            | inr other ↦ rw (get_or-set_other marks (place - 1) index row 0 other) (walk.up_to index (rw shape at short))
          ];
          reached = (suc walk.reached.0, ancestor-next row walk.reached.0 ∙ (ap parent walk.reached.1 ∙ up));
          passed = λ index short marked. elim (cases_eq index (place - 1)) [
            | inl same ↦ (0, ap parent (let e : suc index ≡ place = omega (arith, same, numbered) in e) ∙ up)
            | inr other ↦
                let p = walk.passed index (rw shape at short) (sym (get_or-set_other marks (place - 1) index row 0 other) ∙ marked) in
                (suc p.0, ancestor-next (suc index) (suc p.0) ∙ (ap parent p.1 ∙ up))
          ];
          ends = λ index short marked unlike. elim (cases_eq index (place - 1)) [
            | inl same ↦ absurd (unlike (rw same (get_or-set_same marks (place - 1) row 0 within)))
            | inr other ↦
                let e : get_or (set marks (place - 1) row) index 0 ≡ get_or marks index 0 = get_or-set_other marks (place - 1) index row 0 other in
                walk.ends index (rw shape at short) (rw e at marked) (rw e at unlike)
          ];
        }

  -- what the test says of a chain that ends
  pub ends_decides : (row : ℕ) → Ends parent row → IsTrue false ↔ NeverEnds parent row
  ends_decides row e = ((λ wrong. let w : false ≡ true = wrong in cc), (λ never. absurd (never e.0 e.1)))

  -- before the first row no row is marked
  pub marks_at_first : (rows : ℕ) (marks : List ℕ) → marks ≡ replicate rows 0 → MarksEnd parent rows 1 marks
  marks_at_first rows marks is = record {
    one_each = ap length is ∙ length-replicate {A = ℕ} rows 0;
    earlier = λ index within. rw is (rw (get_or-replicate {A = ℕ} rows index 0 0 (omega (arith, within, ap length is, length-replicate {A = ℕ} rows 0)))
        (omega arith));
    ends = λ index within marked. absurd (marked
        (rw is (get_or-replicate {A = ℕ} rows index 0 0 (omega (arith, within, ap length is, length-replicate {A = ℕ} rows 0)))));
  }

module _ {X : Type 0} (parent : X → ℕ) (rows : List X) where
  -- the parent of a row that is there
  pub parent_is : (row : ℕ) (x : X) → row_at rows row ≡ Some x → parent_at parent rows row ≡ parent x
  parent_is row x here = rw here refl

  -- a row that is not there has no parent
  pub past_end : (row : ℕ) → length rows < row → Ends (parent_at parent rows) row
  past_end zero lt = absurd (omega (arith, lt))
  past_end (suc k) lt = (1, let e : slice_get rows k ≡ None = slice_get_past rows k (omega arith) in rw e refl)

  -- where the chains from all rows end, each chain does
  pub all_end : ((k : ℕ) → k < length rows → NeverEnds (parent_at parent rows) (k + 1) → ⊥) → (row : ℕ) → NeverEnds (parent_at parent rows) row → ⊥
  all_end ended zero never = never 0 refl
  all_end ended (suc k) never = elim (cases_lt k (length rows)) [
    | inl lt ↦ let e : k + 1 ≡ suc k = omega arith in ended k lt (rw e never)
    | inr ge ↦ let past = past_end (suc k) (omega arith) in never past.0 past.1
  ]
