-- The row of a number among the rows of a table.
use Rattle.std.{proofs.Common.{◌≡◌, ℕ, zero, suc, ◌-◌, ◌<◌, ◌≤◌, List, length, map, Some, sym, ap, ◌∙◌, arith}, specs.List.{range_with_len}}
use Rattle.std.proofs.lemmas.{Option.{slice_get-get_or}, List.FromFn.{length-map-range_with_len, get_or-map-range_with_len}}
use Rattle.ppdb_tables.specs.{RawTables.{row_at}, Layouts.{row_in, rows_by}}

row_is : {X : Type 0} (row_of : List ℕ → List ℕ → X) (widths bytes : List ℕ) (count row : ℕ) → 1 ≤ row → row ≤ count
    → row_at (rows_by row_of widths bytes count) row ≡ Some (row_of widths (row_in widths bytes (row - 1)))
row_is {X = X} row_of widths bytes count zero some le = absurd (omega (arith, some))
row_is {X = X} row_of widths bytes count (suc index) some le =
    let made : ℕ → X = λ row. row_of widths (row_in widths bytes row) in
    let within : index < count = omega (arith, le) in
    let there : index < length (map made (range_with_len 0 count)) = omega (arith, within, length-map-range_with_len made 0 count) in
    let same : suc index - 1 ≡ index = omega arith in
    slice_get-get_or (map made (range_with_len 0 count)) index (made 0) there
    ∙ ap Some (get_or-map-range_with_len made 0 count index index (made 0) within (omega arith) ∙ ap made (sym same))

-- what is made of the bytes of a row is that row
pub row_read : {X : Type 0} (row_of : List ℕ → List ℕ → X) (widths bytes : List ℕ) (count row : ℕ) (cells : List ℕ) (made : X) → 1 ≤ row → row ≤ count
    → cells ≡ row_in widths bytes (row - 1) → made ≡ row_of widths cells → row_at (rows_by row_of widths bytes count) row ≡ Some made
row_read row_of widths bytes count row cells made some le here is =
    row_is row_of widths bytes count row some le ∙ ap Some (ap (row_of widths) (sym here) ∙ sym is)
