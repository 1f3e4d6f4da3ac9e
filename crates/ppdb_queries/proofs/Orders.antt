-- Machines that are read one by one: the first with a kickoff, and whether the kickoffs rise.
use Rattle.std.proofs.Common.{◌≡◌, ◌≢◌, ℕ, ◌+◌, ◌-◌, ◌<◌, ◌≤◌, List, length, map, refl, arith, ap, ◌∙◌, slice_index, Bool, true, false, inl, inr}
use Rattle.std.{specs.Bool.{OnTrue}, specs.Prelude.{Option, Some, None, ◌==◌}, proofs.lemmas.Bool.Decides.{nat_tests}, proofs.lemmas.List.{length-map}}
use Rattle.ppdb_tables.specs.{RawTables.{row_at}, declared.rows.MachineRow.{MachineRow}}
use Rattle.ppdb_values.specs.{Links.{move_next_of}, Ordered.{Rises}}
use Rattle.ppdb_queries.{specs.Machines.{first_found}, proofs.Filters.{apart_more, le_or_lt, move_next_found, move_next_none}}

-- what was found among the machines before a row
abbrev pub FoundBefore : List MachineRow → ℕ → ℕ → Option ℕ → Type 0
FoundBefore machines method row (Some move_next) = Some move_next ≡ move_next_of machines method
FoundBefore machines method row None = (j : ℕ) → j + 1 < row → slice_index (map (λ machine. machine.kickoff) machines) j ≢ method

found_here : (machines : List MachineRow) (method row : ℕ) (machine : MachineRow) (same : Bool) → (machine.kickoff == method) ≡ same
    → FoundBefore machines method row None → 1 ≤ row → row_at machines row ≡ Some machine
    → FoundBefore machines method (row + 1) (first_found None machine method)
found_here machines method row machine true e apart from there =
    rw e (move_next_found machines method row machine apart from there (grind (arith, nat_tests, e)))
found_here machines method row machine false e apart from there =
    rw e (apart_more (λ m. m.kickoff) method machines row machine apart from there (λ same. grind (arith, nat_tests, e, same)))

pub found_more : (machines : List MachineRow) (method row : ℕ) (machine : MachineRow) (found : Option ℕ) → FoundBefore machines method row found → 1 ≤ row
    → row_at machines row ≡ Some machine → FoundBefore machines method (row + 1) (first_found found machine method)
found_more machines method row machine (Some move_next) h from there = h
found_more machines method row machine None h from there = found_here machines method row machine (machine.kickoff == method) refl h from there

pub found_all : (machines : List MachineRow) (method row : ℕ) (found : Option ℕ) → FoundBefore machines method row found → length machines + 1 ≤ row
    → found ≡ move_next_of machines method
found_all machines method row (Some move_next) h all = h
found_all machines method row None h all = move_next_none machines method (λ j inside. h j (omega arith))

-- the keys before a row rise
abbrev pub RisesBefore : List ℕ → ℕ → Type 0
RisesBefore keys row = (i j : ℕ) → i < j → j + 1 < row → slice_index keys i < slice_index keys j

-- the key of the row before
abbrev pub IsLast : List ℕ → ℕ → ℕ → Type 0
IsLast keys row last = (j : ℕ) → j + 2 ≡ row → slice_index keys j ≡ last

rises_more : (keys : List ℕ) (row last key : ℕ) → RisesBefore keys row → IsLast keys row last → slice_index keys (row - 1) ≡ key → last < key
    → RisesBefore keys (row + 1)
rises_more keys row last key rise is at above i j before here = elim (le_or_lt row (j + 1)) [
  | inl h ↦
      let e : j ≡ row - 1 = omega arith in
      let high : slice_index keys j ≡ key = ap (λ (k : ℕ). slice_index keys k) e ∙ at in
      let low : slice_index keys (row - 2) ≡ last = is (row - 2) (omega arith) in
      elim (le_or_lt (row - 2) i) [
        | inl k ↦
            let same : i ≡ row - 2 = omega arith in
            let first : slice_index keys i ≡ last = ap (λ (k : ℕ). slice_index keys k) same ∙ low in
            omega (arith, first, high, above)
        | inr k ↦ let r = rise i (row - 2) k (omega arith) in omega (arith, r, low, high, above)
      ]
  | inr h ↦ rise i j before (omega arith)
]

pub still_rises : (keys : List ℕ) (row last key : ℕ) (before after : Bool) → OnTrue before (RisesBefore keys row) → IsLast keys row last
    → slice_index keys (row - 1) ≡ key → OnTrue after ((before ≡ true) × (last < key)) → OnTrue after (RisesBefore keys (row + 1))
still_rises keys row last key before false h is at k = tt
still_rises keys row last key before true h is at k = rises_more keys row last key (rw k.0 at h) is at k.1

pub next_last : (keys : List ℕ) (row key : ℕ) → slice_index keys (row - 1) ≡ key → IsLast keys (row + 1) key
next_last keys row key at j e = let same : j ≡ row - 1 = omega arith in ap (λ (k : ℕ). slice_index keys k) same ∙ at

pub all_rise : (machines : List MachineRow) (row : ℕ) → RisesBefore (map (λ machine. machine.kickoff) machines) row → length machines + 1 ≤ row
    → Rises (map (λ machine. machine.kickoff) machines)
all_rise machines row h all i j before inside = let len = length-map machines (λ (machine : MachineRow). machine.kickoff) in h i j before (omega (arith, len))
