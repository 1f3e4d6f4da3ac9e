-- The bytes of the streams of a file are bytes of the file, and what is read from two of them has two bytes.
use Rattle.std.proofs.Common.{◌≡◌, ℕ, ◌*◌, ◌<◌, ◌≤◌, ◌^◌, List, [], ◌∷◌, length, map, take, drop, sum, sym, subst, arith, inl, inr, slice_index}
use Rattle.std.{specs.Prelude.{All, Option, Some, None, MatchOption}, specs.List.{range_with_len}, specs.Option.{option_map_or}, proofs.lemmas.Bool.{cases_lt}}
use Rattle.std.proofs.lemmas.{List.{get_or_past, length-drop, length-take}, List.Elements.{All-cons, All-drop, All-get_or, All-nil, All-take}}
use Rattle.byteorder.specs.Endian.{little_number}
use Rattle.metadata_root.specs.{declared.kind.StreamKind.{StreamKind}, Streams.{AreStreamsOf, IsListed, IsStream, Stream, Streams, bytes_of, offset_in, size_in}}
use Rattle.metadata_root.specs.Streams.{stream_of}
use Rattle.row_layout.specs.{declared.column.Sizes.{Sizes}, Rows.{cell_place}}
use Rattle.ppdb_tables.specs.{Layouts.{row_in, variable_columns, variable_row, widths_of}, Tables.{rows_at, table_place}}
use Rattle.ppdb_values.specs.Types.{IsNarrowRow}

abbrev pub IsByte : ℕ → Type 0
IsByte b = b < 2 ^ 8

module _ (file : List ℕ) (streams : Streams) (are : AreStreamsOf file streams) where
  -- what holds of no bytes, and of each slice of the file, holds of each stream
  pub of_stream : (P : List ℕ → Type 0) → P [] → ((from len : ℕ) → P (take len (drop from file))) → (kind : StreamKind) → P (bytes_of streams kind)
  of_stream P none slice kind = by (stream_of streams kind) (are kind)
    where
      by : (o : Option Stream) → MatchOption o (IsListed file kind → ⊥) (IsStream file kind) → P (option_map_or (λ s. s.bytes) o [])
      by None absent = none
      by (Some stream) is = subst P (sym is.bytes) (slice (offset_in file is.header) (size_in file is.header))

  pub stream_short : (kind : StreamKind) → length (bytes_of streams kind) ≤ length file
  stream_short =
      of_stream (λ bytes. length bytes ≤ length file) (omega arith)
      (λ from len. let taken = length-take len (drop from file) in let dropped = length-drop from file in omega (arith, taken, dropped))

  pub stream_bytes : All IsByte file → (kind : StreamKind) → All IsByte (bytes_of streams kind)
  stream_bytes all = of_stream (λ bytes. All IsByte bytes) (All-nil IsByte) (λ from len. All-take IsByte len (drop from file) (All-drop IsByte from file all))

-- ---- cells of two bytes

byte_at : (bytes : List ℕ) (i : ℕ) → All IsByte bytes → slice_index bytes i < 256
byte_at bytes i all = elim (cases_lt i (length bytes)) [
  | inl inside ↦ All-get_or IsByte bytes i 0 inside all
  | inr past ↦ let none : slice_index bytes i ≡ 0 = get_or_past bytes i 0 past in omega (arith, none)
]

narrow : (bytes : List ℕ) → All IsByte bytes → little_number 2 bytes < 2 ^ 16
narrow bytes all = let first = byte_at bytes 0 all in let second = byte_at bytes 1 all in omega (arith, first, second)

all_made : {X Y : Type 0} (P : Y → Type 0) (f : X → Y) → ((x : X) → P (f x)) → (xs : List X) → All P (map f xs)
all_made P f each [] = All-nil P
all_made P f each (x ∷ xs) = All-cons P (f x) (map f xs) (each x) (all_made P f each xs)

-- the attributes and the slot of a variable have two bytes
pub narrow_rows : (sizes : Sizes) (stream : List ℕ) → All IsByte stream → All IsNarrowRow (rows_at variable_row sizes stream 0x33 variable_columns)
narrow_rows sizes stream all =
    let widths = widths_of sizes variable_columns in
    let len = slice_index sizes.rows 0x33 in
    let bytes = take (len * sum widths) (drop (table_place sizes stream 0x33) stream) in
    let in_bytes : All IsByte bytes =
    All-take IsByte (len * sum widths) (drop (table_place sizes stream 0x33) stream) (All-drop IsByte (table_place sizes stream 0x33) stream all) in
    let in_row = λ (row : ℕ). All-take IsByte (sum widths) (drop (row * sum widths) bytes) (All-drop IsByte (row * sum widths) bytes in_bytes) in
    let cell = λ (row place : ℕ). narrow (drop place (row_in widths bytes row)) (All-drop IsByte place (row_in widths bytes row) (in_row row)) in
    all_made IsNarrowRow (λ row. variable_row widths (row_in widths bytes row)) (λ row. (cell row (cell_place widths 0), cell row (cell_place widths 1)))
    (range_with_len 0 len)
