-- The first row that passes the end of the #~ stream.
use Rattle.std.proofs.Common.{◌≡◌, ℕ, suc, true, false, Bool, ◌+◌, ◌-◌, ◌*◌, ◌<◌, ◌≤◌, List, [], ◌∷◌, ◌++◌, length, sum, take, drop, get_or, replicate, map, refl}
use Rattle.std.{proofs.Common.{sym, ap, subst, ◌∙◌, append_assoc, arith, lit≤, lit<}, specs.Prelude.{slice_index, nat_lt, ◌==◌}, specs.List.{list_any, list_all}}
use Rattle.std.{specs.Int.{bit_at}, proofs.Math.Seq.{split_at}, proofs.lemmas.List.{take_more, replicate-append-replicate, get_or-map}}
use Rattle.std.proofs.lemmas.{Bool.{ltb-true, false≢true}, List.Folds.{list_all_at}, List.Concat.{flat_map-cons}, Grind.{flat_map-append}}
use Rattle.std.proofs.lemmas.List.FromFn.{get_or-range_with_len}
use Rattle.ppdb_base.specs.declared.{code.Code.{Code}, code.Code.TheVariants.{TablesBounds}, fault.Place.{Place}, fault.Fault.{Fault}}
use Rattle.ppdb_base.{specs.Place.{ComesBefore, numbers, number_of, at_byte}, specs.First.{IsAccepted, IsFirst}, proofs.Judging.{first_at, byte_before}}
use Rattle.ppdb_base.{specs.Fields.{IsField}, proofs.Fields.{ends_by_cut, ends_within, sum_append, sum_cons}}
use Rattle.row_layout.specs.declared.column.{Sizes.{Sizes}, Column.{Column}, Column.TheVariants.{U16, U32, Text, Blob, Guid, Row, Parent}}
use Rattle.row_layout.specs.Columns.{width_of, index_width, has_rows, parent_tables}
use Rattle.ppdb_tables.specs.{Layouts.{debug_tables, row_len, row_fields}, Tables.{BoundFaults, bounds, rows_start}, Bounds.{IsRowFault}}
use Rattle.ppdb_tables.proofs.RowCounts.{sum-replicate}

pub no_table : ℕ × List Column
no_table = (0, [])

-- a debug table, in file order
unfoldable pub table : ℕ → ℕ × List Column
table index = get_or debug_tables index no_table

-- the number of a debug table
pub number_is : (index : ℕ) → index < 8 → (table index).0 ≡ 0x30 + index
unfolding table
number_is index lt = sym (get_or-map (λ (t : ℕ × List Column). t.0) debug_tables index no_table 0 lt) ∙ get_or-range_with_len 0x30 8 index 0 lt

-- the length of its rows
pub len_is : (sizes : Sizes) (index : ℕ) → index < 8 → get_or (map (row_len sizes) debug_tables) index 0 ≡ row_len sizes (table index)
unfolding table
len_is sizes index lt = get_or-map (row_len sizes) debug_tables index no_table 0 lt

-- ---- a row has bytes

index_has_bytes : (long : Bool) → 0 < index_width long
index_has_bytes true = lit< tt
index_has_bytes false = lit< tt

width_some : (sizes : Sizes) (column : Column) → 0 < width_of sizes column
width_some sizes U16 = lit< tt
width_some sizes U32 = lit< tt
width_some sizes Text = index_has_bytes (bit_at sizes.heap 0 == 1)
width_some sizes Guid = index_has_bytes (bit_at sizes.heap 1 == 1)
width_some sizes Blob = index_has_bytes (bit_at sizes.heap 2 == 1)
width_some sizes (Row t) = index_has_bytes (has_rows sizes 65536 t)
width_some sizes Parent = index_has_bytes (list_any (has_rows sizes 2048) parent_tables)

columns_some : (sizes : Sizes) (columns : List Column) → 0 < length columns → 0 < sum (map (width_of sizes) columns)
columns_some sizes [] some = absurd (omega (arith, some))
columns_some sizes (column ∷ columns) some = omega (arith, sum_cons (width_of sizes column) (map (width_of sizes) columns), width_some sizes column)

is_some : ℕ → Bool
is_some n = nat_lt 0 n

some_case : (index n : ℕ) (b : Bool) → index < 8 → get_or (map (λ (t : ℕ × List Column). length t.1) debug_tables) index 0 ≡ n → is_some n ≡ b → 0 < n
unfolding is_some
some_case index n true lt here e = ltb-true 0 n e
some_case index n false lt here e =
    let no = list_all_at is_some (map (λ (t : ℕ × List Column). length t.1) debug_tables) index 0 lt (ap is_some here ∙ e) in
    let all : list_all is_some (map (λ (t : ℕ × List Column). length t.1) debug_tables) ≡ true = refl in
    absurd (false≢true (sym no ∙ all))

-- each row of a debug table has bytes
pub row_some : (sizes : Sizes) (index : ℕ) → index < 8 → 0 < row_len sizes (table index)
unfolding table
row_some sizes index lt =
    columns_some sizes (table index).1
    (some_case index (length (table index).1) _ lt (get_or-map (λ (t : ℕ × List Column). length t.1) debug_tables index no_table 0 lt) refl)

-- ---- the tables one after another

module _ (sizes : Sizes) where
  -- the rows of a table as fields
  abbrev fields_in : ℕ × List Column → List ℕ
  fields_in table = replicate (slice_index sizes.rows table.0) (row_len sizes table)

  -- the same, as they are counted
  fields_of : (index : ℕ) → index < 8 → fields_in (table index) ≡ replicate (slice_index sizes.rows (0x30 + index)) (row_len sizes (table index))
  fields_of index lt = ap (λ number. replicate (slice_index sizes.rows number) (row_len sizes (table index))) (number_is index lt)

  -- the fields up to the next table
  next_fields : (index : ℕ) → index < 8 → row_fields sizes (take (index + 1) debug_tables) ≡ row_fields sizes (take index debug_tables)
      ++ (fields_in (table index) ++ [])
  unfolding table
  next_fields index lt =
      ap (λ tables. row_fields sizes tables) (take_more debug_tables index no_table lt)
      ∙ flat_map-append fields_in (take index debug_tables) (table index ∷ [])
      ∙ ap (λ xs. row_fields sizes (take index debug_tables) ++ xs) (flat_map-cons fields_in (table index) [])

  pub next_table : (index : ℕ) → index < 8 → sum (row_fields sizes (take (index + 1) debug_tables)) ≡ sum (row_fields sizes (take index debug_tables))
      + slice_index sizes.rows (0x30 + index) * row_len sizes (table index)
  next_table index lt =
      let fields = replicate (slice_index sizes.rows (0x30 + index)) (row_len sizes (table index)) in
      ap sum (next_fields index lt) ∙ sum_append (row_fields sizes (take index debug_tables)) (fields_in (table index) ++ [])
      ∙ ap (λ xs. sum (row_fields sizes (take index debug_tables)) + sum (xs ++ [])) (fields_of index lt)
      ∙ ap (λ n. sum (row_fields sizes (take index debug_tables)) + n)
      (sum_append fields [] ∙ omega (arith, sum-replicate (slice_index sizes.rows (0x30 + index)) (row_len sizes (table index))))

  -- all rows, cut before a row of a table
  cut_at_row : (index row : ℕ) → index < 8 → row < slice_index sizes.rows (0x30 + index)
      → (rest : List ℕ) × (row_fields sizes debug_tables ≡ (row_fields sizes (take index debug_tables) ++ replicate row (row_len sizes (table index)))
      ++ (row_len sizes (table index) ∷ rest))
  unfolding table
  cut_at_row index row lt below =
      let rows = slice_index sizes.rows (0x30 + index) in
      let len = row_len sizes (table index) in
      let before = row_fields sizes (take index debug_tables) in
      let later = row_fields sizes (drop (suc index) debug_tables) in
      let split = ap (λ tables. row_fields sizes tables) (split_at debug_tables index no_table lt)
      ∙ flat_map-append fields_in (take index debug_tables) (table index ∷ drop (suc index) debug_tables)
      ∙ ap (λ xs. before ++ xs) (flat_map-cons fields_in (table index) (drop (suc index) debug_tables)
      ∙ ap (λ xs. xs ++ later) (fields_of index lt)) in
      let count : row + suc (rows - suc row) ≡ rows = omega (arith, below) in
      let parts : replicate rows len ≡ replicate row len ++ (len ∷ replicate (rows - suc row) len) =
      ap (λ n. replicate n len) (sym count) ∙ sym (replicate-append-replicate row (suc (rows - suc row)) len) in
      (replicate (rows - suc row) len ++ later, split ∙ ap (λ xs. before ++ (xs ++ later)) parts ∙ simp append_assoc refl)

  module _ (stream : List ℕ) where
    judged_case : (before after : List ℕ) → row_fields sizes debug_tables ≡ before ++ after → rows_start stream + sum before ≤ length stream
        → (code : Code) (at : Place) → BoundFaults sizes stream code at → ComesBefore (numbers code at) (4 ∷ 0 ∷ 0 ∷ 0 ∷ (rows_start stream + sum before) ∷ [])
        → ⊥
    judged_case before after split le _ _ (bounds at len f over) past =
        let lt = byte_before 4 TablesBounds (rows_start stream + at) (rows_start stream + sum before) past in
        absurd (omega (arith, lt, le, over, ends_by_cut (row_fields sizes debug_tables) before after at len f split (omega (arith, lt))))

    least_bounds : (code : Code) (at : Place) → BoundFaults sizes stream code at → 17 ≤ number_of code
    least_bounds _ _ (bounds at len f over) = lit≤ tt

    -- the first row of a table that passes the end, after tables that fit, is the first fault
    pub row_is_first : (index first : ℕ) (fault : Fault) → index < 8 → first ≡ rows_start stream + sum (row_fields sizes (take index debug_tables))
        → IsRowFault stream first (slice_index sizes.rows (0x30 + index)) (row_len sizes (table index)) fault → IsFirst (BoundFaults sizes stream) fault
    row_is_first index first fault lt here f =
        let row = f.0 in
        let len = row_len sizes (table index) in
        let cut = cut_at_row index row lt f.1 in
        let before = row_fields sizes (take index debug_tables) ++ replicate row len in
        let place : first + row * len ≡ rows_start stream + sum before =
        omega (arith, here, sum_append (row_fields sizes (take index debug_tables)) (replicate row len), sum-replicate row len) in
        let is : fault ≡ record { code = TablesBounds; place = at_byte 4 (rows_start stream + sum before) } =
        f.2 ∙ ap (λ b. record { code = TablesBounds; place = at_byte 4 b }) place in
        let field : IsField (row_fields sizes debug_tables) (sum before) len = record { before = before; after = cut.0; in_order = cut.1; place = refl } in
        subst (IsFirst (BoundFaults sizes stream)) (sym is)
        (first_at (BoundFaults sizes stream) TablesBounds (at_byte 4 (rows_start stream + sum before))
        (judged_case before (len ∷ cut.0) cut.1 (omega (arith, place, f.3)))
        (bounds (sum before) len field (omega (arith, place, f.4)))
        (λ other invalid. least_bounds other _ invalid))

    accepted_case : rows_start stream + sum (row_fields sizes debug_tables) ≤ length stream → (code : Code) (at : Place) → BoundFaults sizes stream code at → ⊥
    accepted_case le _ _ (bounds at len f over) =
        absurd (omega (arith, le, over, ends_within (row_fields sizes debug_tables) at len f))

    pub rows_accepted : rows_start stream + sum (row_fields sizes debug_tables) ≤ length stream → IsAccepted (BoundFaults sizes stream)
    rows_accepted le = accepted_case le
