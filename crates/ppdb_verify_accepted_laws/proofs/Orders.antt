-- Rows in the order of a number of theirs.
use Rattle.std.{proofs.Common.{◌≡◌, ℕ, zero, suc, ◌<◌, ◌≤◌, List, length, map, ap, ◌∙◌, arith, inl, inr, slice_index}, specs.Prelude.{Some}}
use Rattle.std.{specs.Option.{option_map}, proofs.lemmas.Bool.{cases_eq}, proofs.lemmas.List.{length-map}, proofs.lemmas.Option.{get_or_from_slice_get}}
use Rattle.std.proofs.lemmas.Option.{slice_get-map, slice_get_cases}
pub use Rattle.ppdb_tables.proofs.NumberedRows.{row_within}
use Rattle.ppdb_tables.specs.RawTables.{row_at}
use Rattle.ppdb_values.specs.Ordered.{EachPair, IsSorted, Rises}

pub row_of : {X : Type 0} (rows : List X) (i : ℕ) → i < length rows → (x : X) × (row_at rows (suc i) ≡ Some x)
row_of rows i inside = elim (slice_get_cases rows i).1 [
  | inl x ↦ (x.0, x.2)
  | inr past ↦ let out = past.0 in absurd (omega (arith, inside, out))
]

key_at : {X : Type 0} (key : X → ℕ) (rows : List X) (i : ℕ) (x : X) → row_at rows (suc i) ≡ Some x → slice_index (map key rows) i ≡ key x
key_at key rows i x here = get_or_from_slice_get (map key rows) i (key x) 0 (slice_get-map key rows i ∙ ap (λ o. option_map key o) here)

inside_rows : {X : Type 0} (key : X → ℕ) (rows : List X) (i : ℕ) → i < length (map key rows) → i < length rows
inside_rows key rows i within = rw (length-map rows key) at within

pub sorted_by : {X : Type 0} (key : X → ℕ) (rows : List X) → EachPair (λ a b. key a ≤ key b) rows → IsSorted (map key rows)
sorted_by key rows pairs i j le within = elim (cases_eq i j) [
  | inl same ↦ rw same (omega arith)
  | inr apart ↦
      let inside = inside_rows key rows j within in
      let x = row_of rows i (omega (arith, le, inside)) in
      let y = row_of rows j inside in
      let up = pairs (suc i) (suc j) x.0 y.0 x.1 y.1 (grind (arith, le, apart)) in
      rw (key_at key rows i x.0 x.1, key_at key rows j y.0 y.1) up
]

pub rises_by : {X : Type 0} (key : X → ℕ) (rows : List X) → EachPair (λ a b. key a < key b) rows → Rises (map key rows)
rises_by key rows pairs i j lt within =
    let inside = inside_rows key rows j within in
    let x = row_of rows i (omega (arith, lt, inside)) in
    let y = row_of rows j inside in
    let up = pairs (suc i) (suc j) x.0 y.0 x.1 y.1 (omega (arith, lt)) in
    rw (key_at key rows i x.0 x.1, key_at key rows j y.0 y.1) up

sorted_steps : (keys : List ℕ) → ((i : ℕ) → suc i < length keys → slice_index keys i ≤ slice_index keys (suc i)) → IsSorted keys
sorted_steps keys steps i zero le within = let e : i ≡ 0 = omega (arith, le) in rw e (omega arith)
sorted_steps keys steps i (suc j) le within = elim (cases_eq i (suc j)) [
  | inl same ↦ rw same (omega arith)
  | inr apart ↦
      let up = sorted_steps keys steps i j (grind (arith, le, apart)) (omega (arith, within)) in
      let next = steps j within in
      omega (arith, up, next)
]

-- no row is below the one right before it
pub sorted_next : {X : Type 0} (key : X → ℕ) (rows : List X)
    → ((i : ℕ) (x y : X) → row_at rows (suc i) ≡ Some x → row_at rows (suc (suc i)) ≡ Some y → key x ≤ key y) → IsSorted (map key rows)
sorted_next key rows next = sorted_steps (map key rows) (λ i within.
    let inside = inside_rows key rows (suc i) within in
    let x = row_of rows i (omega (arith, inside)) in
    let y = row_of rows (suc i) inside in
    let up = next i x.0 y.0 x.1 y.1 in
    rw (key_at key rows i x.0 x.1, key_at key rows (suc i) y.0 y.1) up)
