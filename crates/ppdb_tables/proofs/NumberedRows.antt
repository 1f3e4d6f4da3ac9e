-- Rows by their numbers.
use Rattle.std.proofs.{Common.{◌≡◌, ℕ, zero, suc, ◌≤◌, List, length, Some, arith, inl, inr}, lemmas.Option.{slice_get_cases, slice_get_within}}
use Rattle.ppdb_tables.specs.RawTables.{row_at}

-- a row that is there has a number from 1 to the count of rows
pub row_within : {X : Type 0} (rows : List X) (row : ℕ) (x : X) → row_at rows row ≡ Some x → (1 ≤ row) × (row ≤ length rows)
row_within rows zero x here = cc
row_within rows (suc i) x here = let inside = slice_get_within rows i x here in (omega arith, omega (arith, inside))

-- a number from 1 to the count of rows is that of a row
pub row_there : {X : Type 0} (rows : List X) (row : ℕ) → 1 ≤ row → row ≤ length rows → (x : X) × (row_at rows row ≡ Some x)
row_there rows zero low high = absurd (omega (arith, low))
row_there rows (suc i) low high = elim (slice_get_cases rows i).1 [
  | inl x ↦ (x.0, x.2)
  | inr past ↦ absurd (omega (arith, past.0))
]

-- a number is that of one row
pub same_row : {X : Type 0} (rows : List X) (row : ℕ) (x y : X) → row_at rows row ≡ Some x → row_at rows row ≡ Some y → x ≡ y
same_row rows row x y a b = cc
