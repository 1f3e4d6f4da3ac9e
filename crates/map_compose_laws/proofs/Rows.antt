-- A readable map has no row 0.
use Rattle.std.{proofs.Common.{◌≡◌, ℕ, ◌≤◌, ◌&&◌, ◌||◌, Bool, true, false, cond, List, [], ◌∷◌, Option, Some, None, refl, ◌∙◌, ap, arith}, specs.Prelude.{nat_eq}}
use Rattle.std.{specs.List.{AllByRecursion, find, list_any}, specs.Option.{option_map}, proofs.lemmas.Bool.{ne_eqb}}
use Rattle.ppdb_maps.specs.{declared.entries.RowLine.{RowLine}, Map.{Map, row_within, row_line, is_dropped, count_of}, Readable.{IsReadable, IsRow, IsRowOf}}

-- no row becomes row 0
abbrev pub KeepsRows : Map → Type 0
KeepsRows m = (table old : ℕ) → 1 ≤ old → row_within m table old ≡ Some 0 → ⊥

found_new : (m : Map) (test : RowLine → Bool) (rows : List RowLine) → AllByRecursion (IsRowOf m) rows
    → option_map (λ (r : RowLine). r.new) (find test rows) ≡ Some 0 → ⊥
found_new m test [] all is = absurd cc
found_new m test (r ∷ rs) all is = of (test r) is (found_new m test rs all.1)
  where
    of : (b : Bool) → option_map (λ (r : RowLine). r.new) (cond b (Some r) (find test rs)) ≡ Some 0
        → (option_map (λ (r : RowLine). r.new) (find test rs) ≡ Some 0 → ⊥) → ⊥
    of true is rest = let none : r.new ≡ 0 = cc in let from = all.0.1.0 in omega (arith, none, from)
    of false is rest = rest is

pub keeps_rows : (m : Map) → IsReadable m → KeepsRows m
keeps_rows m readable table old from is = by_drop (nat_eq table 0x06 && is_dropped m old) is
  where
    by_count : (o : Option ℕ) → (elim o as (λ _. Option ℕ) [ None ↦ Some old | Some count ↦ row_line m table old ]) ≡ Some 0 → ⊥
    by_count None is = let none : old ≡ 0 = cc in omega (arith, none, from)
    by_count (Some count) is = found_new m (λ r. nat_eq r.table table && nat_eq r.old old) m.rows readable.rows is

    by_drop : (b : Bool) → cond b None (elim (count_of m table) as (λ _. Option ℕ) [ None ↦ Some old | Some count ↦ row_line m table old ]) ≡ Some 0 → ⊥
    by_drop true is = absurd cc
    by_drop false is = by_count (count_of m table) is

no_zero : (ns : List ℕ) → AllByRecursion IsRow ns → list_any (nat_eq 0) ns ≡ false
no_zero [] all = refl
no_zero (n ∷ ns) all =
    let from = all.0.0 in
    ap (λ b. b || list_any (nat_eq 0) ns) (ne_eqb 0 n (λ e. omega (arith, e, from))) ∙ no_zero ns all.1

-- nor does it drop method 0
pub drops_from_one : (m : Map) → IsReadable m → is_dropped m 0 ≡ false
drops_from_one m readable = no_zero m.drops readable.drops
