-- The rows that are written are the rows that are read.
use Rattle.std.proofs.Common.{◌≡◌, ℕ, ◌+◌, ◌*◌, ◌<◌, List, [], ◌∷◌, ◌++◌, length, take, map, flat_map, sum, refl, sym, ap, ◌∙◌, append_assoc, arith, length-append}
use Rattle.std.{proofs.Common.{All}, specs.Prelude.{get_or}, specs.List.{range_with_len}, proofs.lemmas.List.{append-nil, drop_at, take_at}}
use Rattle.std.proofs.lemmas.List.Elements.{All-head, All-tail}
use Rattle.row_layout.{specs.declared.column.Sizes.{Sizes}, specs.Rows.{Fit, cell_in, row_bytes}, proofs.Cells.{cell-row_bytes, length-row_bytes}}
use Rattle.ppdb_tables.specs.declared.rows.{DocumentRow.{DocumentRow}, MethodDebugRow.{MethodDebugRow}, ScopeRow.{ScopeRow}, VariableRow.{VariableRow}}
use Rattle.ppdb_tables.specs.declared.rows.{ConstantRow.{ConstantRow}, ImportRow.{ImportRow}, MachineRow.{MachineRow}, CustomRow.{CustomRow}}
use Rattle.ppdb_tables.specs.Layouts.{rows_by, row_in, widths_of, document_row, document_columns, method_row, method_columns, scope_row, scope_columns, variable_row}
use Rattle.ppdb_tables.specs.Layouts.{variable_columns, constant_row, constant_columns, import_row, import_columns, machine_row, machine_columns, custom_row}
use Rattle.ppdb_tables.specs.Layouts.{custom_columns}
use Rattle.ppdb_build_layout.specs.Bytes.{document_cells, method_cells, scope_cells, variable_cells, constant_cells, import_cells, machine_cells, custom_cells}

-- ---- any table

module _ {X : Type 0} (row_of : List ℕ → List ℕ → X) (widths : List ℕ) (cells : X → List ℕ) (same : (row : X) → length widths ≡ length (cells row))
    (back : (row : X) → Fit widths (cells row) → row_of widths (row_bytes widths (cells row)) ≡ row) where
  abbrev bytes_of : X → List ℕ
  bytes_of row = row_bytes widths (cells row)

  from : (prefix : List ℕ) (at : ℕ) (rows : List X) → length prefix ≡ at * sum widths → All (λ row. Fit widths (cells row)) rows
      → map (λ row. row_of widths (row_in widths (prefix ++ flat_map bytes_of rows) row)) (range_with_len at (length rows)) ≡ rows
  from prefix at [] place fit = refl
  from prefix at (row ∷ rows) place fit =
      let whole = prefix ++ (bytes_of row ++ flat_map bytes_of rows) in
      let long : length (bytes_of row) ≡ sum widths = length-row_bytes widths (cells row) (same row) in
      let here : row_in widths whole at ≡ bytes_of row =
      ap (take (sum widths)) (drop_at prefix (bytes_of row ++ flat_map bytes_of rows) (at * sum widths) place)
      ∙ take_at (bytes_of row) (flat_map bytes_of rows) (sum widths) long in
      let moved : whole ≡ (prefix ++ bytes_of row) ++ flat_map bytes_of rows = sym (append_assoc prefix (bytes_of row) (flat_map bytes_of rows)) in
      let next : length (prefix ++ bytes_of row) ≡ (at + 1) * sum widths = length-append prefix (bytes_of row) ∙ omega (arith, place, long) in
      ap (λ first. first ∷ map (λ row. row_of widths (row_in widths whole row)) (range_with_len (at + 1) (length rows)))
      (ap (row_of widths) here ∙ back row (All-head (λ (row : X). Fit widths (cells row)) row rows fit))
      ∙ ap (λ all. row ∷ map (λ row. row_of widths (row_in widths all row)) (range_with_len (at + 1) (length rows))) moved
      ∙ ap (λ rest. row ∷ rest) (from (prefix ++ bytes_of row) (at + 1) rows next (All-tail (λ (row : X). Fit widths (cells row)) row rows fit))

  pub rows-back : (rows : List X) → All (λ row. Fit widths (cells row)) rows → rows_by row_of widths (flat_map bytes_of rows) (length rows) ≡ rows
  rows-back rows fit = from [] 0 rows (omega arith) fit

-- ---- the rows of each table

cell-back : (widths cells : List ℕ) → Fit widths cells → (k : ℕ) → k < length widths → cell_in widths (row_bytes widths cells) k ≡ get_or cells k 0
cell-back widths cells fit k h = ap (λ row. cell_in widths row k) (sym (append-nil (row_bytes widths cells))) ∙ cell-row_bytes widths cells [] fit k h

module _ (sizes : Sizes) where
  pub document-back : (row : DocumentRow) → Fit (widths_of sizes document_columns) (document_cells row)
      → document_row (widths_of sizes document_columns) (row_bytes (widths_of sizes document_columns) (document_cells row)) ≡ row
  document-back row fit =
      let cell = cell-back (widths_of sizes document_columns) (document_cells row) fit in
      rw (cell 0 (omega arith), cell 1 (omega arith), cell 2 (omega arith), cell 3 (omega arith)) refl

  pub method-back : (row : MethodDebugRow) → Fit (widths_of sizes method_columns) (method_cells row)
      → method_row (widths_of sizes method_columns) (row_bytes (widths_of sizes method_columns) (method_cells row)) ≡ row
  method-back row fit =
      let cell = cell-back (widths_of sizes method_columns) (method_cells row) fit in
      rw (cell 0 (omega arith), cell 1 (omega arith)) refl

  pub scope-back : (row : ScopeRow) → Fit (widths_of sizes scope_columns) (scope_cells row)
      → scope_row (widths_of sizes scope_columns) (row_bytes (widths_of sizes scope_columns) (scope_cells row)) ≡ row
  scope-back row fit =
      let cell = cell-back (widths_of sizes scope_columns) (scope_cells row) fit in
      rw (cell 0 (omega arith), cell 1 (omega arith), cell 2 (omega arith), cell 3 (omega arith), cell 4 (omega arith), cell 5 (omega arith)) refl

  pub variable-back : (row : VariableRow) → Fit (widths_of sizes variable_columns) (variable_cells row)
      → variable_row (widths_of sizes variable_columns) (row_bytes (widths_of sizes variable_columns) (variable_cells row)) ≡ row
  variable-back row fit =
      let cell = cell-back (widths_of sizes variable_columns) (variable_cells row) fit in
      rw (cell 0 (omega arith), cell 1 (omega arith), cell 2 (omega arith)) refl

  pub constant-back : (row : ConstantRow) → Fit (widths_of sizes constant_columns) (constant_cells row)
      → constant_row (widths_of sizes constant_columns) (row_bytes (widths_of sizes constant_columns) (constant_cells row)) ≡ row
  constant-back row fit =
      let cell = cell-back (widths_of sizes constant_columns) (constant_cells row) fit in
      rw (cell 0 (omega arith), cell 1 (omega arith)) refl

  pub import-back : (row : ImportRow) → Fit (widths_of sizes import_columns) (import_cells row)
      → import_row (widths_of sizes import_columns) (row_bytes (widths_of sizes import_columns) (import_cells row)) ≡ row
  import-back row fit =
      let cell = cell-back (widths_of sizes import_columns) (import_cells row) fit in
      rw (cell 0 (omega arith), cell 1 (omega arith)) refl

  pub machine-back : (row : MachineRow) → Fit (widths_of sizes machine_columns) (machine_cells row)
      → machine_row (widths_of sizes machine_columns) (row_bytes (widths_of sizes machine_columns) (machine_cells row)) ≡ row
  machine-back row fit =
      let cell = cell-back (widths_of sizes machine_columns) (machine_cells row) fit in
      rw (cell 0 (omega arith), cell 1 (omega arith)) refl

  pub custom-back : (row : CustomRow) → Fit (widths_of sizes custom_columns) (custom_cells row)
      → custom_row (widths_of sizes custom_columns) (row_bytes (widths_of sizes custom_columns) (custom_cells row)) ≡ row
  custom-back row fit =
      let cell = cell-back (widths_of sizes custom_columns) (custom_cells row) fit in
      rw (cell 0 (omega arith), cell 1 (omega arith), cell 2 (omega arith)) refl
