-- The references stand in the rows of the tables 30 to 37.
use Rattle.std.{proofs.Common.{◌≡◌, ℕ, zero, suc, ◌+◌, ◌<◌, ◌≤◌, List, [], ◌∷◌, length, Some, None, slice_get, refl, subst, arith}, specs.List.{flat_map}}
use Rattle.std.specs.List.{enumerate_from}
use Rattle.ppdb_base.specs.declared.{code.Code.{Code}, fault.Place.{Place}}
use Rattle.blob_grammar.specs.declared.places.PlacedIndex.{PlacedIndex}
use Rattle.ppdb_heaps.specs.Heaps.{blob_at}
use Rattle.ppdb_tables.specs.declared.rows.{DocumentRow.{DocumentRow}, MethodDebugRow.{MethodDebugRow}, VariableRow.{VariableRow}, ConstantRow.{ConstantRow}}
use Rattle.ppdb_tables.specs.{declared.rows.ImportRow.{ImportRow}, declared.rows.CustomRow.{CustomRow}, RawTables.{RawTables, HasShape, count}}
use Rattle.ppdb_verify_total.specs.HeapUses.{HeapUse, text_in, blob_in, named_inside, in_name, in_imports, of_document, of_method, of_variable, of_constant}
use Rattle.ppdb_verify_total.{specs.HeapUses.{of_import, of_custom, heap_uses}, specs.Spans.{SpanFaults}, specs.Spans.SpanFaults.{span_total}, proofs.Rising.{Each}}
use Rattle.ppdb_verify_total.proofs.Rising.{each-append}

-- where a reference may stand
pub record IsSpanPlace (raw : RawTables) (at : Place) : Type 0 where
  pub part : at.part ≡ 5
  pub from : 0x30 ≤ at.table
  pub to : at.table ≤ 0x37
  pub within : at.row ≤ count raw at.table

module _ (raw : RawTables) (shape : HasShape raw) where
  abbrev Stands : HeapUse → Type 0
  Stands r = IsSpanPlace raw r.at

  each_inside : (blobs : List ℕ) (table row column : ℕ) → 0x30 ≤ table → table ≤ 0x37 → row ≤ count raw table → (indexes : List PlacedIndex)
      → Each Stands (named_inside blobs table row column indexes)
  each_inside blobs table row column from to within [] = tt
  each_inside blobs table row column from to within (x ∷ xs) =
      (record { part = refl; from = from; to = to; within = within }, each_inside blobs table row column from to within xs)

  each_row : {X : Type 0} (of_row : ℕ × X → List HeapUse) (n : ℕ) (xs : List X)
      → ((row : ℕ) (x : X) → n ≤ row → row < n + length xs → Each Stands (of_row (row, x))) → Each Stands (flat_map of_row (enumerate_from n xs))
  each_row of_row n [] each = tt
  each_row of_row n (x ∷ xs) each =
      each-append Stands (of_row (n, x)) (flat_map of_row (enumerate_from (n + 1) xs)) (each n x (omega arith) (omega arith))
      (each_row of_row (n + 1) xs (λ row y from to. each row y (omega (arith, from)) (omega (arith, to))))

  -- a reference of a row at a cell
  at_cell : (r : HeapUse) → r.at.part ≡ 5 → 0x30 ≤ r.at.table → r.at.table ≤ 0x37 → r.at.row ≤ count raw r.at.table → Stands r
  at_cell r part from to within = record { part = part; from = from; to = to; within = within }

  each_document : (row : ℕ) (x : DocumentRow) → row ≤ count raw 0x30 → Each Stands (of_document raw (row, x))
  each_document row x within = (
    at_cell (blob_in raw 0x30 row 0 x.name) refl (omega arith) (omega arith) within,
    each-append Stands (named_inside raw.blobs 0x30 row 0 (in_name raw (blob_at raw.blobs x.name))) _
        (each_inside raw.blobs 0x30 row 0 (omega arith) (omega arith) within (in_name raw (blob_at raw.blobs x.name)))
        (at_cell (blob_in raw 0x30 row 2 x.hash) refl (omega arith) (omega arith) within, tt),
  )

  each_method : (row : ℕ) (x : MethodDebugRow) → row ≤ count raw 0x31 → Each Stands (of_method raw (row, x))
  each_method row x within = (at_cell (blob_in raw 0x31 row 1 x.points) refl (omega arith) (omega arith) within, tt)

  each_variable : (row : ℕ) (x : VariableRow) → row ≤ count raw 0x33 → Each Stands (of_variable raw (row, x))
  each_variable row x within = (at_cell (text_in raw 0x33 row 2 x.name) refl (omega arith) (omega arith) within, tt)

  each_constant : (row : ℕ) (x : ConstantRow) → row ≤ count raw 0x34 → Each Stands (of_constant raw (row, x))
  each_constant row x within = (
    at_cell (text_in raw 0x34 row 0 x.name) refl (omega arith) (omega arith) within,
    (at_cell (blob_in raw 0x34 row 1 x.signature) refl (omega arith) (omega arith) within, tt),
  )

  each_import : (row : ℕ) (x : ImportRow) → row ≤ count raw 0x35 → Each Stands (of_import raw (row, x))
  each_import row x within = (
    at_cell (blob_in raw 0x35 row 1 x.imports) refl (omega arith) (omega arith) within,
    each_inside raw.blobs 0x35 row 1 (omega arith) (omega arith) within (in_imports raw (blob_at raw.blobs x.imports)),
  )

  each_custom : (row : ℕ) (x : CustomRow) → row ≤ count raw 0x37 → Each Stands (of_custom raw (row, x))
  each_custom row x within = (at_cell (blob_in raw 0x37 row 2 x.value) refl (omega arith) (omega arith) within, tt)

  each_heap_use : Each Stands (heap_uses raw)
  unfolding heap_uses
  each_heap_use =
      each-append Stands (flat_map (of_document raw) (enumerate_from 1 raw.documents)) _
      (each_row (of_document raw) 1 raw.documents (λ row x from to. each_document row x (omega (arith, to, shape.documents))))
      (each-append Stands (flat_map (of_method raw) (enumerate_from 1 raw.methods)) _
      (each_row (of_method raw) 1 raw.methods (λ row x from to. each_method row x (omega (arith, to, shape.methods))))
      (each-append Stands (flat_map (of_variable raw) (enumerate_from 1 raw.variables)) _
      (each_row (of_variable raw) 1 raw.variables (λ row x from to. each_variable row x (omega (arith, to, shape.variables))))
      (each-append Stands (flat_map (of_constant raw) (enumerate_from 1 raw.constants)) _
      (each_row (of_constant raw) 1 raw.constants (λ row x from to. each_constant row x (omega (arith, to, shape.constants))))
      (each-append Stands (flat_map (of_import raw) (enumerate_from 1 raw.imports)) _
      (each_row (of_import raw) 1 raw.imports (λ row x from to. each_import row x (omega (arith, to, shape.imports))))
      (each_row (of_custom raw) 1 raw.customs (λ row x from to. each_custom row x (omega (arith, to, shape.customs))))))))

  at_index : (rs : List HeapUse) (k : ℕ) (r : HeapUse) → Each Stands rs → slice_get rs k ≡ Some r → Stands r
  at_index [] k r each there = let w : None ≡ Some r = there in cc
  at_index (x ∷ xs) zero r each there = let same : x ≡ r = cc in subst Stands same each.0
  at_index (x ∷ xs) (suc k) r each there = at_index xs k r each.1 there

  -- a sum passes its limit at such a place
  pub span_place : (code : Code) (at : Place) → SpanFaults raw code at → IsSpanPlace raw at
  span_place _ _ (span_total k r there over) = at_index (heap_uses raw) k r each_heap_use there
