-- The custom records on a row, by its coded index and by the row itself.
use Rattle.std.{proofs.Common.{◌≡◌, ℕ, suc, ◌+◌, List, [], ◌∷◌, refl, sym, ap, subst, ◌∙◌, Bool, true, false, cond, arith, inl, inr}, specs.Prelude.{Option, Some}}
use Rattle.std.specs.{Prelude.{None, IfSome, slice_get, ◌==◌, ◌&&◌, ◌/◌, ◌<◌, ◌≤◌}, Option.{option_map}, List.{filter, enumerate_from}}
use Rattle.std.proofs.lemmas.{Bool.{eq-eqb, cases_eq}, Bool.Decides.{nat_tests}}
use Rattle.ppdb_tables.specs.{declared.parent.Parent.{Parent}, declared.rows.CustomRow.{CustomRow}, Parents.{parent_in, coded_in, CodesAreParents}}
use Rattle.ppdb_tables.specs.RawTables.{RawTables}
use Rattle.ppdb_values.specs.{Customs.{parent_of}, Parts.{is_at}, Rules.{KeepsCustoms, IsCustom}}
use Rattle.ppdb_queries.specs.{declared.run.Run.{Run}, Runs.{IsRunOf, rows_in, customs_at}}

-- ---- tests of parents

same_parent : (parent : Parent) (table row : ℕ) → parent.table ≡ table → parent.row ≡ row → parent ≡ record { table = table; row = row }
same_parent parent table row t r =
    ap (λ (p : ℕ × ℕ). let parent : Parent = record { table = p.0; row = p.1 } in parent) (let pair : (parent.table, parent.row) ≡ (table, row) = cc in pair)

both : (a b c d : ℕ) → ((a == b) && (c == d)) ≡ true → (a ≡ b) × (c ≡ d)
both a b c d h = (grind (arith, nat_tests, h), grind (arith, nat_tests, h))

is_at_only : (parent : Parent) (table row : ℕ) → is_at table row parent ≡ true → parent ≡ record { table = table; row = row }
is_at_only parent table row h = let e = both parent.table table parent.row row h in same_parent parent table row e.0 e.1

is_at_self : (parent wanted : Parent) → parent ≡ wanted → is_at wanted.table wanted.row parent ≡ true
is_at_self parent wanted e = rw (e, eq-eqb wanted.table wanted.table refl, eq-eqb wanted.row wanted.row refl) refl

-- ---- codes

names : (laws : CodesAreParents) (wanted : Parent) (coded : ℕ) → coded_in wanted ≡ Some coded → parent_in coded ≡ Some wanted
names laws wanted coded e = subst (λ (o : Option ℕ). IfSome o (λ coded. parent_in coded ≡ Some wanted)) e (laws.coded wanted)

codes : (laws : CodesAreParents) (wanted : Parent) (coded : ℕ) → parent_in coded ≡ Some wanted → coded_in wanted ≡ Some coded
codes laws wanted coded e = subst (λ (o : Option Parent). IfSome o (λ parent. coded_in parent ≡ Some coded)) e (laws.parent coded)

row_in : (n : ℕ) (o : Option ℕ) (parent : Parent) → option_map (λ table. record { table = table; row = n }) o ≡ Some parent → parent.row ≡ n
row_in n (Some table) parent e =
    let there : Parent = record { table = table; row = n } in let same : there ≡ parent = cc in sym (ap (λ (p : Parent). p.row) same)
row_in n None parent e = cc

-- the code of a row that is there has a form
pub code_small : (laws : CodesAreParents) (wanted : Parent) (coded : ℕ) → coded_in wanted ≡ Some coded → wanted.row ≤ 16777215 → coded < 536870912
code_small laws wanted coded e few = let row = row_in (coded / 32) _ wanted (names laws wanted coded e) in omega (arith, row, few)

-- a record's coded parent is the code of a row exactly where its parent is the row
same_test : (raw : RawTables) (laws : CodesAreParents) (wanted : Parent) (coded : ℕ) (row : CustomRow) → coded_in wanted ≡ Some coded → IsCustom raw row
    → (row.parent == coded) ≡ is_at wanted.table wanted.row (parent_of row.parent)
same_test raw laws wanted coded row code keeps = elim (cases_eq row.parent coded) [
  | inl e ↦
      let named : parent_in row.parent ≡ Some wanted = ap parent_in e ∙ names laws wanted coded code in
      let same : parent_of row.parent ≡ wanted = let tag = keeps.tag in cc in
      eq-eqb row.parent coded e ∙ sym (is_at_self (parent_of row.parent) wanted same)
  | inr other ↦
      (let f : (row.parent == coded) ≡ false = grind (arith, nat_tests, other) in f)
      ∙ sym (not_at (is_at wanted.table wanted.row (parent_of row.parent)) (λ h.
      let same : parent_of row.parent ≡ wanted = is_at_only (parent_of row.parent) wanted.table wanted.row h in
      let back : coded_in wanted ≡ Some row.parent = codes laws wanted row.parent (keeps.tag ∙ ap (λ (p : Parent). Some p) same) in
      other (let e : row.parent ≡ coded = cc in e)))
]
  where
    not_at : (b : Bool) → (b ≡ true → ⊥) → b ≡ false
    not_at true h = absurd (h refl)
    not_at false h = refl

-- ---- filters

filter_same : {X : Type 0} (p q : X → Bool) (n : ℕ) (rows : List X) → ((i : ℕ) (x : X) → slice_get rows i ≡ Some x → p x ≡ q x)
    → filter (λ row. p row.1) (enumerate_from n rows) ≡ filter (λ row. q row.1) (enumerate_from n rows)
filter_same p q n [] same = refl
filter_same p q n (x ∷ xs) same =
    let more = filter_same p q (n + 1) xs (λ i y e. same (suc i) y e) in
    rw (same 0 x refl) (ap (λ rest. cond (q x) ((n, x) ∷ rest) rest) more)

-- the run of the code of a row is the custom records on the row
pub run_at : (raw : RawTables) (laws : CodesAreParents) (wanted : Parent) (coded : ℕ) (run : Run) → coded_in wanted ≡ Some coded → KeepsCustoms raw
    → IsRunOf (λ custom. custom.parent) coded raw.customs run → rows_in run raw.customs ≡ customs_at raw wanted.table wanted.row
run_at raw laws wanted coded run code keeps is =
    is.all ∙ filter_same (λ row. row.parent == coded) (λ row. is_at wanted.table wanted.row (parent_of row.parent)) 1 raw.customs
    (λ i row there. same_test raw laws wanted coded row code (keeps.each (suc i) row there))
