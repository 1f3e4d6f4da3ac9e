-- In a stream of bytes the column of a table with less than 65536 rows has numbers below 65536.
use Rattle.std.{proofs.Common.{◌≡◌, ℕ, ◌*◌, ◌<◌, List, length, take, drop, sum, ap, arith, inl, inr, slice_index}, specs.Prelude.{All}, specs.List.{range_with_len}}
use Rattle.std.proofs.lemmas.{Bool.{cases_lt, lt-leb}, List.{get_or_past}, List.Elements.{All-drop, All-get_or, All-map, All-take}}
use Rattle.byteorder.specs.Endian.{little_number}
use Rattle.row_layout.specs.{declared.column.Column.TheVariants.{Row}, declared.column.Sizes.{Sizes}, Columns.{index_width, width_of}, Rows.{cell_in, cell_place}}
use Rattle.ppdb_tables.specs.{declared.rows.ScopeRow.{ScopeRow}, Layouts.{row_in, scope_columns, scope_row, widths_of}, Tables.{rows_at, table_place}}

abbrev IsByte : ℕ → Type 0
IsByte b = b < 256

byte_at : (bytes : List ℕ) (i : ℕ) → All IsByte bytes → slice_index bytes i < 256
byte_at bytes i all = elim (cases_lt i (length bytes)) [
  | inl inside ↦ All-get_or IsByte bytes i 0 inside all
  | inr past ↦ let none : slice_index bytes i ≡ 0 = get_or_past bytes i 0 past in omega (arith, none)
]

narrow : (bytes : List ℕ) → All IsByte bytes → little_number 2 bytes < 65536
narrow bytes all = let first = byte_at bytes 0 all in let second = byte_at bytes 1 all in omega (arith, first, second)

-- below 65536 rows a table is indexed by two bytes
pub two_bytes : (sizes : Sizes) (table : ℕ) → slice_index sizes.rows table < 65536 → width_of sizes (Row table) ≡ 2
two_bytes sizes table few = ap index_width (lt-leb 65536 (slice_index sizes.rows table) few)

pub narrow_column : (sizes : Sizes) (stream : List ℕ) (list : ScopeRow → ℕ) (column : ℕ)
    → ((widths row : List ℕ) → list (scope_row widths row) ≡ cell_in widths row column) → slice_index (widths_of sizes scope_columns) column ≡ 2
    → All IsByte stream → All (λ scope. list scope < 65536) (rows_at scope_row sizes stream 0x32 scope_columns)
narrow_column sizes stream list column is two all =
    All-map (λ scope. list scope < 65536) (λ row. scope_row widths (row_in widths bytes row)) (range_with_len 0 len) (λ i d inside. cell _)
  where
    widths : List ℕ
    widths = widths_of sizes scope_columns

    len : ℕ
    len = slice_index sizes.rows 0x32

    bytes : List ℕ
    bytes = take (len * sum widths) (drop (table_place sizes stream 0x32) stream)

    in_bytes : All IsByte bytes
    in_bytes = All-take IsByte (len * sum widths) (drop (table_place sizes stream 0x32) stream) (All-drop IsByte (table_place sizes stream 0x32) stream all)

    cell : (row : ℕ) → list (scope_row widths (row_in widths bytes row)) < 65536
    cell row =
        let here = All-take IsByte (sum widths) (drop (row * sum widths) bytes) (All-drop IsByte (row * sum widths) bytes in_bytes) in
        let low = narrow (drop (cell_place widths column) (row_in widths bytes row))
        (All-drop IsByte (cell_place widths column) (row_in widths bytes row) here) in
        let reads = is widths (row_in widths bytes row) in
        let width = ap (λ n. little_number n (drop (cell_place widths column) (row_in widths bytes row))) two in
        omega (arith, low, reads, width)
