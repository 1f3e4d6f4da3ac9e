-- The tables that are written are the tables that are read.
use Rattle.std.proofs.Common.{◌≡◌, ℕ, ◌*◌, ◌≤◌, List, [], ◌∷◌, ◌++◌, length, take, drop, sum, refl, sym, ap, ◌∙◌, arith, append_assoc, length-append}
use Rattle.std.{specs.Prelude.{slice_index}, proofs.Math.Nat.{mul_comm}}
use Rattle.row_layout.specs.{declared.column.Column.{Column}, declared.column.Sizes.{Sizes}, Rows.{Fit, row_bytes}}
use Rattle.ppdb_tables.specs.Layouts.{row_len, rows_by, widths_of, document_row, document_columns, method_row, method_columns, scope_row, scope_columns}
use Rattle.ppdb_tables.specs.Layouts.{variable_row, variable_columns, constant_row, constant_columns, import_row, import_columns, machine_row, machine_columns}
use Rattle.ppdb_tables.specs.{Layouts.{custom_row, custom_columns}, Tables.{rows_start, rows_at, table_place}}
use Rattle.ppdb_build_layout.specs.{declared.rows.Rows.{Rows}, declared.rows.HeapLens.{HeapLens}, Bytes.{rows_bytes, all_rows, document_cells, method_cells}}
use Rattle.ppdb_build_layout.specs.{Bytes.{scope_cells, variable_cells, constant_cells, import_cells, machine_cells, custom_cells}, Laid.{RowsFit, AllRowsFit}}
use Rattle.ppdb_build_layout.proofs.Lengths.{length-rows}
use Rattle.ppdb_build_layout_laws.proofs.{Container.{slice}, Rows.{rows-back, document-back, method-back, scope-back, variable-back, constant-back, import-back}}
use Rattle.ppdb_build_layout_laws.proofs.{Rows.{machine-back, custom-back}, Tables.{AreCounted, stream, sizes, zeros, prefix, rows_there, start, sum-rows}}

-- a table that stands at its place is read
table-back : {X : Type 0} (row_of : List ℕ → List ℕ → X) (columns : List Column) (cells : X
    → List ℕ) (sizes : Sizes) (stream before rest : List ℕ) (number : ℕ) (rows : List X)
    → ((row : X) → length (widths_of sizes columns) ≡ length (cells row))
    → ((row : X) → Fit (widths_of sizes columns) (cells row) → row_of (widths_of sizes columns) (row_bytes (widths_of sizes columns) (cells row)) ≡ row)
    → RowsFit sizes columns cells rows → length rows ≡ slice_index sizes.rows number
    → stream ≡ before ++ (rows_bytes sizes columns cells rows ++ rest) → length before ≡ table_place sizes stream number
    → rows_at row_of sizes stream number columns ≡ rows
table-back row_of columns cells sizes stream before rest number rows same back fit counted is place =
    let widths = widths_of sizes columns in
    let count = slice_index sizes.rows number in
    let long : length (rows_bytes sizes columns cells rows) ≡ count * sum widths = length-rows sizes columns cells same rows
    ∙ ap (λ n. n * sum widths) counted in
    let part : take (count * sum widths) (drop (table_place sizes stream number) stream) ≡ rows_bytes sizes columns cells rows =
    slice before (rows_bytes sizes columns cells rows) rest stream (table_place sizes stream number) (count * sum widths) is place long in
    ap (λ bytes. rows_by row_of widths bytes count) part
    ∙ ap (λ n. rows_by row_of widths (rows_bytes sizes columns cells rows) n) (sym counted)
    ∙ rows-back row_of widths cells same back rows fit

-- ---- each table stands after those before it

split-0 : (f t0 t1 t2 t3 t4 t5 t6 t7 z : List ℕ)
    → f ++ (t0 ++ t1 ++ t2 ++ t3 ++ t4 ++ t5 ++ t6 ++ t7 ++ z) ≡ f ++ (t0 ++ (t1 ++ (t2 ++ (t3 ++ (t4 ++ (t5 ++ (t6 ++ (t7 ++ z))))))))
split-0 f t0 t1 t2 t3 t4 t5 t6 t7 z = simp append_assoc refl

split-1 : (f t0 t1 t2 t3 t4 t5 t6 t7 z : List ℕ)
    → f ++ (t0 ++ t1 ++ t2 ++ t3 ++ t4 ++ t5 ++ t6 ++ t7 ++ z) ≡ (f ++ t0) ++ (t1 ++ (t2 ++ (t3 ++ (t4 ++ (t5 ++ (t6 ++ (t7 ++ z)))))))
split-1 f t0 t1 t2 t3 t4 t5 t6 t7 z = simp append_assoc refl

split-2 : (f t0 t1 t2 t3 t4 t5 t6 t7 z : List ℕ)
    → f ++ (t0 ++ t1 ++ t2 ++ t3 ++ t4 ++ t5 ++ t6 ++ t7 ++ z) ≡ (f ++ t0 ++ t1) ++ (t2 ++ (t3 ++ (t4 ++ (t5 ++ (t6 ++ (t7 ++ z))))))
split-2 f t0 t1 t2 t3 t4 t5 t6 t7 z = simp append_assoc refl

split-3 : (f t0 t1 t2 t3 t4 t5 t6 t7 z : List ℕ)
    → f ++ (t0 ++ t1 ++ t2 ++ t3 ++ t4 ++ t5 ++ t6 ++ t7 ++ z) ≡ (f ++ t0 ++ t1 ++ t2) ++ (t3 ++ (t4 ++ (t5 ++ (t6 ++ (t7 ++ z)))))
split-3 f t0 t1 t2 t3 t4 t5 t6 t7 z = simp append_assoc refl

split-4 : (f t0 t1 t2 t3 t4 t5 t6 t7 z : List ℕ)
    → f ++ (t0 ++ t1 ++ t2 ++ t3 ++ t4 ++ t5 ++ t6 ++ t7 ++ z) ≡ (f ++ t0 ++ t1 ++ t2 ++ t3) ++ (t4 ++ (t5 ++ (t6 ++ (t7 ++ z))))
split-4 f t0 t1 t2 t3 t4 t5 t6 t7 z = simp append_assoc refl

split-5 : (f t0 t1 t2 t3 t4 t5 t6 t7 z : List ℕ)
    → f ++ (t0 ++ t1 ++ t2 ++ t3 ++ t4 ++ t5 ++ t6 ++ t7 ++ z) ≡ (f ++ t0 ++ t1 ++ t2 ++ t3 ++ t4) ++ (t5 ++ (t6 ++ (t7 ++ z)))
split-5 f t0 t1 t2 t3 t4 t5 t6 t7 z = simp append_assoc refl

split-6 : (f t0 t1 t2 t3 t4 t5 t6 t7 z : List ℕ)
    → f ++ (t0 ++ t1 ++ t2 ++ t3 ++ t4 ++ t5 ++ t6 ++ t7 ++ z) ≡ (f ++ t0 ++ t1 ++ t2 ++ t3 ++ t4 ++ t5) ++ (t6 ++ (t7 ++ z))
split-6 f t0 t1 t2 t3 t4 t5 t6 t7 z = simp append_assoc refl

split-7 : (f t0 t1 t2 t3 t4 t5 t6 t7 z : List ℕ)
    → f ++ (t0 ++ t1 ++ t2 ++ t3 ++ t4 ++ t5 ++ t6 ++ t7 ++ z) ≡ (f ++ t0 ++ t1 ++ t2 ++ t3 ++ t4 ++ t5 ++ t6) ++ (t7 ++ z)
split-7 f t0 t1 t2 t3 t4 t5 t6 t7 z = simp append_assoc refl

module _ (counts : List ℕ) (all : Rows) (heaps : HeapLens) (small : (t : ℕ)
    → slice_index counts t ≤ 16777215) (lens : AreCounted counts all) (fit : AllRowsFit (sizes counts all heaps small) all) where
  abbrev file_stream : List ℕ
  file_stream = stream counts all heaps small

  abbrev cell_sizes : Sizes
  cell_sizes = sizes counts all heaps small

  abbrev t0 : List ℕ
  t0 = rows_bytes cell_sizes document_columns document_cells all.documents

  abbrev t1 : List ℕ
  t1 = rows_bytes cell_sizes method_columns method_cells all.methods

  abbrev t2 : List ℕ
  t2 = rows_bytes cell_sizes scope_columns scope_cells all.scopes

  abbrev t3 : List ℕ
  t3 = rows_bytes cell_sizes variable_columns variable_cells all.variables

  abbrev t4 : List ℕ
  t4 = rows_bytes cell_sizes constant_columns constant_cells all.constants

  abbrev t5 : List ℕ
  t5 = rows_bytes cell_sizes import_columns import_cells all.imports

  abbrev t6 : List ℕ
  t6 = rows_bytes cell_sizes machine_columns machine_cells all.machines

  abbrev t7 : List ℕ
  t7 = rows_bytes cell_sizes custom_columns custom_cells all.customs

  abbrev f : List ℕ
  f = prefix counts all heaps small

  abbrev z : List ℕ
  z = zeros counts all heaps small

  there : file_stream ≡ f ++ (t0 ++ t1 ++ t2 ++ t3 ++ t4 ++ t5 ++ t6 ++ t7 ++ z)
  unfolding all_rows
  there = rows_there counts all heaps small

  begins : rows_start file_stream ≡ length f
  begins = start counts all heaps small

  len-0 : length t0 ≡ row_len cell_sizes (0x30, document_columns) * slice_index counts 0x30
  len-0 = length-rows cell_sizes document_columns document_cells (λ row. refl) all.documents
      ∙ ap (λ n. n * sum (widths_of cell_sizes document_columns)) lens.documents
      ∙ mul_comm (slice_index counts 0x30) (sum (widths_of cell_sizes document_columns))

  len-1 : length t1 ≡ row_len cell_sizes (0x31, method_columns) * slice_index counts 0x31
  len-1 = length-rows cell_sizes method_columns method_cells (λ row. refl) all.methods
      ∙ ap (λ n. n * sum (widths_of cell_sizes method_columns)) lens.methods ∙ mul_comm (slice_index counts 0x31) (sum (widths_of cell_sizes method_columns))

  len-2 : length t2 ≡ row_len cell_sizes (0x32, scope_columns) * slice_index counts 0x32
  len-2 = length-rows cell_sizes scope_columns scope_cells (λ row. refl) all.scopes ∙ ap (λ n. n * sum (widths_of cell_sizes scope_columns)) lens.scopes
      ∙ mul_comm (slice_index counts 0x32) (sum (widths_of cell_sizes scope_columns))

  len-3 : length t3 ≡ row_len cell_sizes (0x33, variable_columns) * slice_index counts 0x33
  len-3 = length-rows cell_sizes variable_columns variable_cells (λ row. refl) all.variables
      ∙ ap (λ n. n * sum (widths_of cell_sizes variable_columns)) lens.variables
      ∙ mul_comm (slice_index counts 0x33) (sum (widths_of cell_sizes variable_columns))

  len-4 : length t4 ≡ row_len cell_sizes (0x34, constant_columns) * slice_index counts 0x34
  len-4 = length-rows cell_sizes constant_columns constant_cells (λ row. refl) all.constants
      ∙ ap (λ n. n * sum (widths_of cell_sizes constant_columns)) lens.constants
      ∙ mul_comm (slice_index counts 0x34) (sum (widths_of cell_sizes constant_columns))

  len-5 : length t5 ≡ row_len cell_sizes (0x35, import_columns) * slice_index counts 0x35
  len-5 = length-rows cell_sizes import_columns import_cells (λ row. refl) all.imports
      ∙ ap (λ n. n * sum (widths_of cell_sizes import_columns)) lens.imports ∙ mul_comm (slice_index counts 0x35) (sum (widths_of cell_sizes import_columns))

  len-6 : length t6 ≡ row_len cell_sizes (0x36, machine_columns) * slice_index counts 0x36
  len-6 = length-rows cell_sizes machine_columns machine_cells (λ row. refl) all.machines
      ∙ ap (λ n. n * sum (widths_of cell_sizes machine_columns)) lens.machines ∙ mul_comm (slice_index counts 0x36) (sum (widths_of cell_sizes machine_columns))

  place-0 : length (f) ≡ table_place cell_sizes file_stream 0x30
  place-0 = omega (arith, begins, sum-rows cell_sizes ([]))

  place-1 : length (f ++ t0) ≡ table_place cell_sizes file_stream 0x31
  place-1 = omega (arith, begins, sum-rows cell_sizes ((0x30, document_columns) ∷ []), len-0, length-append f t0)

  place-2 : length (f ++ t0 ++ t1) ≡ table_place cell_sizes file_stream 0x32
  place-2 = omega (
    arith,
    begins,
    sum-rows cell_sizes
        ((0x30, document_columns) ∷ (0x31, method_columns) ∷ []),
    len-0,
    length-append f t0,
    len-1,
    length-append (f ++ t0) t1,
  )

  place-3 : length (f ++ t0 ++ t1 ++ t2) ≡ table_place cell_sizes file_stream 0x33
  place-3 = omega (
    arith,
    begins,
    sum-rows cell_sizes
        ((0x30, document_columns) ∷ (0x31, method_columns) ∷ (0x32, scope_columns) ∷ []),
    len-0,
    length-append f t0,
    len-1,
    length-append (f ++ t0) t1,
    len-2,
    length-append (f ++ t0 ++ t1) t2,
  )

  place-4 : length (f ++ t0 ++ t1 ++ t2 ++ t3) ≡ table_place cell_sizes file_stream 0x34
  place-4 = omega (
    arith,
    begins,
    sum-rows cell_sizes
        ((0x30, document_columns) ∷ (0x31, method_columns) ∷ (0x32, scope_columns) ∷ (0x33, variable_columns) ∷ []),
    len-0,
    length-append f t0,
    len-1,
    length-append (f ++ t0) t1,
    len-2,
    length-append (f ++ t0 ++ t1) t2,
    len-3,
    length-append (f ++ t0 ++ t1 ++ t2) t3,
  )

  place-5 : length (f ++ t0 ++ t1 ++ t2 ++ t3 ++ t4) ≡ table_place cell_sizes file_stream 0x35
  place-5 = omega (
    arith,
    begins,
    sum-rows cell_sizes
        ((0x30, document_columns) ∷ (0x31, method_columns) ∷ (0x32, scope_columns) ∷ (0x33, variable_columns) ∷ (0x34, constant_columns) ∷ []),
    len-0,
    length-append f t0,
    len-1,
    length-append (f ++ t0) t1,
    len-2,
    length-append (f ++ t0 ++ t1) t2,
    len-3,
    length-append (f ++ t0 ++ t1 ++ t2) t3,
    len-4,
    length-append (f ++ t0 ++ t1 ++ t2 ++ t3) t4,
  )

  place-6 : length (f ++ t0 ++ t1 ++ t2 ++ t3 ++ t4 ++ t5) ≡ table_place cell_sizes file_stream 0x36
  place-6 = omega (
    arith,
    begins,
    sum-rows cell_sizes
        ((0x30, document_columns) ∷ (0x31, method_columns) ∷ (0x32, scope_columns) ∷ (0x33, variable_columns)
        ∷ (0x34, constant_columns) ∷ (0x35, import_columns) ∷ []),
    len-0,
    length-append f t0,
    len-1,
    length-append (f ++ t0) t1,
    len-2,
    length-append (f ++ t0 ++ t1) t2,
    len-3,
    length-append (f ++ t0 ++ t1 ++ t2) t3,
    len-4,
    length-append (f ++ t0 ++ t1 ++ t2 ++ t3) t4,
    len-5,
    length-append (f ++ t0 ++ t1 ++ t2 ++ t3 ++ t4) t5,
  )

  place-7 : length (f ++ t0 ++ t1 ++ t2 ++ t3 ++ t4 ++ t5 ++ t6) ≡ table_place cell_sizes file_stream 0x37
  place-7 = omega (
    arith,
    begins,
    sum-rows cell_sizes
        ((0x30, document_columns) ∷ (0x31, method_columns) ∷ (0x32, scope_columns) ∷ (0x33, variable_columns)
        ∷ (0x34, constant_columns) ∷ (0x35, import_columns) ∷ (0x36, machine_columns) ∷ []),
    len-0,
    length-append f t0,
    len-1,
    length-append (f ++ t0) t1,
    len-2,
    length-append (f ++ t0 ++ t1) t2,
    len-3,
    length-append (f ++ t0 ++ t1 ++ t2) t3,
    len-4,
    length-append (f ++ t0 ++ t1 ++ t2 ++ t3) t4,
    len-5,
    length-append (f ++ t0 ++ t1 ++ t2 ++ t3 ++ t4) t5,
    len-6,
    length-append (f ++ t0 ++ t1 ++ t2 ++ t3 ++ t4 ++ t5) t6,
  )

  pub documents-are : rows_at document_row cell_sizes file_stream 0x30 document_columns ≡ all.documents
  documents-are =
      table-back document_row document_columns document_cells cell_sizes file_stream (f) (t1 ++ (t2 ++ (t3 ++ (t4 ++ (t5 ++ (t6 ++
      (t7 ++ z))))))) 0x30 all.documents (λ row. refl) (document-back cell_sizes) fit.documents lens.documents
      (there ∙ split-0 f t0 t1 t2 t3 t4 t5 t6 t7 z) place-0

  pub methods-are : rows_at method_row cell_sizes file_stream 0x31 method_columns ≡ all.methods
  methods-are =
      table-back method_row method_columns method_cells cell_sizes file_stream (f ++ t0) (t2 ++ (t3 ++ (t4 ++ (t5 ++ (t6 ++ (t7 ++ z)))))) 0x31 all.methods
      (λ row. refl) (method-back cell_sizes) fit.methods lens.methods
      (there ∙ split-1 f t0 t1 t2 t3 t4 t5 t6 t7 z) place-1

  pub scopes-are : rows_at scope_row cell_sizes file_stream 0x32 scope_columns ≡ all.scopes
  scopes-are =
      table-back scope_row scope_columns scope_cells cell_sizes file_stream (f ++ t0 ++ t1) (t3 ++ (t4 ++ (t5 ++ (t6 ++ (t7 ++ z))))) 0x32 all.scopes
      (λ row. refl) (scope-back cell_sizes) fit.scopes lens.scopes
      (there ∙ split-2 f t0 t1 t2 t3 t4 t5 t6 t7 z) place-2

  pub variables-are : rows_at variable_row cell_sizes file_stream 0x33 variable_columns ≡ all.variables
  variables-are =
      table-back variable_row variable_columns variable_cells cell_sizes file_stream (f ++ t0 ++ t1 ++ t2) (t4 ++ (t5 ++ (t6 ++
      (t7 ++ z)))) 0x33 all.variables (λ row. refl) (variable-back cell_sizes) fit.variables lens.variables
      (there ∙ split-3 f t0 t1 t2 t3 t4 t5 t6 t7 z) place-3

  pub constants-are : rows_at constant_row cell_sizes file_stream 0x34 constant_columns ≡ all.constants
  constants-are =
      table-back constant_row constant_columns constant_cells cell_sizes file_stream (f ++ t0 ++ t1 ++ t2 ++ t3) (t5 ++ (t6 ++
      (t7 ++ z))) 0x34 all.constants (λ row. refl) (constant-back cell_sizes) fit.constants lens.constants
      (there ∙ split-4 f t0 t1 t2 t3 t4 t5 t6 t7 z) place-4

  pub imports-are : rows_at import_row cell_sizes file_stream 0x35 import_columns ≡ all.imports
  imports-are =
      table-back import_row import_columns import_cells cell_sizes file_stream (f ++ t0 ++ t1 ++ t2 ++ t3 ++ t4) (t6 ++ (t7 ++ z)) 0x35 all.imports
      (λ row. refl) (import-back cell_sizes) fit.imports lens.imports
      (there ∙ split-5 f t0 t1 t2 t3 t4 t5 t6 t7 z) place-5

  pub machines-are : rows_at machine_row cell_sizes file_stream 0x36 machine_columns ≡ all.machines
  machines-are =
      table-back machine_row machine_columns machine_cells cell_sizes file_stream (f ++ t0 ++ t1 ++ t2 ++ t3 ++ t4 ++ t5) (t7 ++ z) 0x36 all.machines
      (λ row. refl) (machine-back cell_sizes) fit.machines lens.machines
      (there ∙ split-6 f t0 t1 t2 t3 t4 t5 t6 t7 z) place-6

  pub customs-are : rows_at custom_row cell_sizes file_stream 0x37 custom_columns ≡ all.customs
  customs-are =
      table-back custom_row custom_columns custom_cells cell_sizes file_stream (f ++ t0 ++ t1 ++ t2 ++ t3 ++ t4 ++ t5 ++ t6) z 0x37 all.customs
      (λ row. refl) (custom-back cell_sizes) fit.customs lens.customs
      (there ∙ split-7 f t0 t1 t2 t3 t4 t5 t6 t7 z) place-7
