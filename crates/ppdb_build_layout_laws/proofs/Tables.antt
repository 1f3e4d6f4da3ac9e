-- The stream #~ of a file that is laid out.
use Rattle.std.proofs.Common.{◌≡◌, ℕ, suc, ◌+◌, ◌*◌, ◌^◌, ◌<◌, ◌≤◌, ◌⊎◌, Bool, true, false, List, [], ◌∷◌, ◌++◌, length, drop, map, replicate, sum, inl, inr, refl}
use Rattle.std.{proofs.Common.{sym, ap, subst, ◌∙◌, arith, append_assoc, length-append, get_or, zero-add, nat_le}, specs.Prelude.{nat_lt, slice_index}}
use Rattle.std.{specs.Prelude.{if◌then◌else◌}, proofs.Math.Nat.{mul_comm}, specs.List.{range_with_len}, proofs.lemmas.Bool.{cases_lt, lt-ltb, le-ltb}}
use Rattle.std.proofs.lemmas.List.{drop_at}
use Rattle.byteorder.specs.Endian.{little_bytes, little_number}
use Rattle.ppdb_base.{specs.First.{IsAccepted}, proofs.Fields.{ends_within, sum_append}, proofs.Judging.{accepted_then}}
use Rattle.metadata_root.specs.Fields.{number_at}
use Rattle.row_layout.specs.declared.column.{Sizes.{Sizes}, Column.{Column}}
use Rattle.ppdb_tables.specs.{declared.head.PdbHead.{PdbHead}, Counts.{counts_below}, Layouts.{debug_tables, row_fields, row_len}, Tables.{TableFieldFaults}}
use Rattle.ppdb_tables.specs.Tables.{BoundFaults, TablesFaults, heap_sizes, valid, table_fields, table_rows, rows_start, count_in, sizes_in}
use Rattle.ppdb_tables.specs.Tables.{TableFieldFaults.{short, heap_bits, foreign, rows, method_rows}, BoundFaults.{bounds}}
use Rattle.ppdb_tables.proofs.RowCounts.{sum-fields, sum-replicate}
use Rattle.ppdb_build_layout.specs.declared.rows.{Rows.{Rows}, HeapLens.{HeapLens}}
use Rattle.ppdb_build_layout.specs.Bytes as bytes
use Rattle.ppdb_build_layout.{specs.Bytes.{padding, with_rows, bits_of, counts_of, sizes_of, all_rows, tables_stream}, proofs.Lengths.{length-all, length-counts}}
use Rattle.ppdb_build_layout.proofs.Lengths.{rows_sum}
use Rattle.ppdb_build_layout_laws.proofs.{Bits.{number_from, bits-are, number-below}, Counts.{among, among-in, among-small, rows_back, below_all}}
use Rattle.ppdb_build_layout_laws.proofs.Head.{number-behind}

-- a list is what is read at each of its places
map-back : (f : ℕ → ℕ) (xs : List ℕ) (at : ℕ) → ((i : ℕ) → i < length xs → f (at + i) ≡ get_or xs i 0) → map f (range_with_len at (length xs)) ≡ xs
map-back f [] at same = refl
map-back f (x ∷ xs) at same =
    ap (λ first. first ∷ map f (range_with_len (at + 1) (length xs))) (ap f (omega arith) ∙ same 0 (omega arith))
    ∙ ap (λ rest. x ∷ rest) (map-back f xs (at + 1) (λ i h. ap f (omega arith) ∙ same (suc i) (omega (arith, h))))

-- ---- how many bytes the rows of some tables have

abbrev pub total : Sizes → List (ℕ × List Column) → ℕ
total sizes [] = 0
total sizes (table ∷ tables) = row_len sizes table * slice_index sizes.rows table.0 + total sizes tables

pub sum-rows : (sizes : Sizes) (tables : List (ℕ × List Column)) → sum (row_fields sizes tables) ≡ total sizes tables
sum-rows sizes [] = refl
sum-rows sizes (table ∷ tables) =
    sum_append (replicate (slice_index sizes.rows table.0) (row_len sizes table)) (row_fields sizes tables)
    ∙ ap (λ n. n + sum (row_fields sizes tables)) (sum-replicate (slice_index sizes.rows table.0) (row_len sizes table))
    ∙ ap (λ n. row_len sizes table * slice_index sizes.rows table.0 + n) (sum-rows sizes tables)

-- the same, by the rows that are there
rows-counted : (a0 a1 a2 a3 a4 a5 a6 a7 c0 c1 c2 c3 c4 c5 c6 c7 l0 l1 l2 l3 l4 l5 l6 l7 : ℕ)
    → l0 ≡ c0 → l1 ≡ c1 → l2 ≡ c2 → l3 ≡ c3 → l4 ≡ c4 → l5 ≡ c5 → l6 ≡ c6 → l7 ≡ c7
    → a0 * c0 + (a1 * c1 + (a2 * c2 + (a3 * c3 + (a4 * c4 + (a5 * c5 + (a6 * c6 +
    (a7 * c7 + 0))))))) ≡ l0 * a0 + l1 * a1 + l2 * a2 + l3 * a3 + l4 * a4 + l5 * a5 + l6 * a6 + l7 * a7
rows-counted a0 a1 a2 a3 a4 a5 a6 a7 c0 c1 c2 c3 c4 c5 c6 c7 l0 l1 l2 l3 l4 l5 l6 l7 e0 e1 e2 e3 e4 e5 e6 e7 =
    sums (a0 * c0) (a1 * c1) (a2 * c2) (a3 * c3) (a4 * c4) (a5 * c5) (a6 * c6) (a7 * c7) (l0 * a0) (l1 * a1) (l2 * a2) (l3 * a3) (l4 * a4) (l5 * a5)
    (l6 * a6) (l7 * a7)
    (one a0 c0 l0 e0) (one a1 c1 l1 e1) (one a2 c2 l2 e2) (one a3 c3 l3 e3) (one a4 c4 l4 e4) (one a5 c5 l5 e5) (one a6 c6 l6 e6) (one a7 c7 l7 e7)
  where
    one : (a c l : ℕ) → l ≡ c → a * c ≡ l * a
    one a c l e = ap (λ n. a * n) (sym e) ∙ mul_comm a l

    sums : (p0 p1 p2 p3 p4 p5 p6 p7 q0 q1 q2 q3 q4 q5 q6 q7 : ℕ) → p0 ≡ q0 → p1 ≡ q1 → p2 ≡ q2 → p3 ≡ q3 → p4 ≡ q4 → p5 ≡ q5 → p6 ≡ q6 → p7 ≡ q7
        → p0 + (p1 + (p2 + (p3 + (p4 + (p5 + (p6 + (p7 + 0))))))) ≡ q0 + q1 + q2 + q3 + q4 + q5 + q6 + q7
    sums p0 p1 p2 p3 p4 p5 p6 p7 q0 q1 q2 q3 q4 q5 q6 q7 e0 e1 e2 e3 e4 e5 e6 e7 = omega (arith, e0, e1, e2, e3, e4, e5, e6, e7)

-- a number of one byte
one-byte : (n : ℕ) (rest : List ℕ) → little_number 1 (n ∷ rest) ≡ n
one-byte n rest = omega arith

-- the bits of heaps are below 8
heap-bits-few : (heaps : HeapLens) → bytes.heap_bits heaps < 8
heap-bits-few heaps = omega (arith, most 1 heaps.texts, most 2 heaps.guids, most 4 heaps.blobs)
  where
    most : (bit len : ℕ) → bytes.heap_bit bit len ≤ bit
    most bit len = by (nat_le 65536 len)
      where
        by : (b : Bool) → (if b then bit else 0) ≤ bit
        by true = omega arith
        by false = omega arith

-- ---- the stream

-- there are as many rows as are counted
pub record AreCounted (counts : List ℕ) (all : Rows) : Type 0 where
  pub documents : length all.documents ≡ slice_index counts 0x30
  pub methods : length all.methods ≡ slice_index counts 0x31
  pub scopes : length all.scopes ≡ slice_index counts 0x32
  pub variables : length all.variables ≡ slice_index counts 0x33
  pub constants : length all.constants ≡ slice_index counts 0x34
  pub imports : length all.imports ≡ slice_index counts 0x35
  pub machines : length all.machines ≡ slice_index counts 0x36
  pub customs : length all.customs ≡ slice_index counts 0x37

module _ (counts : List ℕ) (all : Rows) (heaps : HeapLens) (small : (t : ℕ) → slice_index counts t ≤ 16777215) where
  abbrev tables : List ℕ
  tables = with_rows counts (range_with_len 0x30 8)

  abbrev pub stream : List ℕ
  stream = tables_stream counts all heaps

  abbrev pub sizes : Sizes
  sizes = sizes_of counts heaps

  abbrev flags : List ℕ
  flags = 2 ∷ 0 ∷ bytes.heap_bits heaps ∷ 1 ∷ []

  abbrev pub zeros : List ℕ
  zeros = replicate (padding (length (little_bytes 4 0 ++ flags ++ little_bytes 8
      (bits_of tables) ++ little_bytes 8 0x00c4000000000000 ++ counts_of counts tables ++ all_rows sizes all))) 0

  parts : stream ≡ (little_bytes 4 0 ++ flags) ++ (little_bytes 8 (bits_of tables) ++ (little_bytes 8 0x00c4000000000000 ++ (counts_of counts tables ++
      (all_rows sizes all ++ zeros))))
  unfolding tables_stream
  parts = six (little_bytes 4 0) flags (little_bytes 8 (bits_of tables)) (little_bytes 8 0x00c4000000000000) (counts_of counts tables)
      (all_rows sizes all) zeros
    where
      six : (a b c d e f g : List ℕ) → a ++ b ++ c ++ d ++ e ++ f ++ g ≡ (a ++ b) ++ (c ++ (d ++ (e ++ (f ++ g))))
      six a b c d e f g = simp append_assoc refl

  -- all before the rows
  abbrev pub prefix : List ℕ
  prefix = (little_bytes 4 0 ++ flags) ++ little_bytes 8 (bits_of tables) ++ little_bytes 8 0x00c4000000000000 ++ counts_of counts tables

  pub rows_there : stream ≡ prefix ++ (all_rows sizes all ++ zeros)
  rows_there = parts ∙ four (little_bytes 4 0 ++ flags) (little_bytes 8 (bits_of tables)) (little_bytes 8 0x00c4000000000000) (counts_of counts tables)
      (all_rows sizes all ++ zeros)
    where
      four : (a b c d e : List ℕ) → a ++ (b ++ (c ++ (d ++ e))) ≡ a ++ b ++ c ++ d ++ e
      four a b c d e = simp append_assoc refl

  abbrev has_rows : ℕ → Bool
  has_rows t = nat_lt 0 (slice_index counts t)

  high : bits_of tables ≡ 2 ^ 0x30 * number_from has_rows 0x30 8
  high = bits-are has_rows 8 0x30

  valid_back : valid stream ≡ bits_of tables
  valid_back = number-behind stream (little_bytes 4 0 ++ flags) (little_bytes 8 0x00c4000000000000 ++ (counts_of counts tables ++
      (all_rows sizes all ++ zeros))) 8 8 (bits_of tables) parts refl
      (omega (arith, high, number-below has_rows 8 0x30))

  heap_back : heap_sizes stream ≡ bytes.heap_bits heaps
  unfolding number_at
  heap_back =
      ap (λ s. number_at s 6 1) parts
      ∙ one-byte (bytes.heap_bits heaps) (1 ∷ (little_bytes 8 (bits_of tables) ++ (little_bytes 8 0x00c4000000000000 ++ (counts_of counts tables ++
      (all_rows sizes all ++ zeros)))))

  counts_there : drop 24 stream ≡ counts_of counts tables ++ (all_rows sizes all ++ zeros)
  counts_there =
      ap (drop 24) (parts ∙ three (little_bytes 4 0 ++ flags) (little_bytes 8 (bits_of tables)) (little_bytes 8 0x00c4000000000000)
      (counts_of counts tables ++ (all_rows sizes all ++ zeros)))
      ∙ drop_at ((little_bytes 4 0 ++ flags) ++ little_bytes 8 (bits_of tables) ++ little_bytes 8 0x00c4000000000000) (counts_of counts tables ++
      (all_rows sizes all ++ zeros)) 24 refl
    where
      three : (a b c d : List ℕ) → a ++ (b ++ (c ++ d)) ≡ a ++ b ++ c ++ d
      three a b c d = simp append_assoc refl

  pub table_rows_back : (t : ℕ) → t < 64 → table_rows stream t ≡ among counts 0x30 8 t
  table_rows_back t h = rows_back counts 0x30 8 (omega arith) stream (all_rows sizes all ++ zeros) 24 (valid stream) valid_back counts_there small t h

  pub start : rows_start stream ≡ length prefix
  start =
      sum-fields (4 ∷ 1 ∷ 1 ∷ 1 ∷ 1 ∷ 8 ∷ 8 ∷ []) (valid stream)
      ∙ ap (λ n. 24 + 4 * n) (ap (λ b. counts_below b 64) valid_back ∙ below_all counts 0x30 8 (omega arith))
      ∙ sym (length-append ((little_bytes 4 0 ++ flags) ++ little_bytes 8 (bits_of tables) ++ little_bytes 8 0x00c4000000000000) (counts_of counts tables)
      ∙ ap (λ n. 24 + n) (length-counts counts tables))

  pub length_stream : length stream ≡ length prefix + rows_sum sizes all + length zeros
  length_stream = omega (
    arith,
    ap length rows_there,
    length-append prefix (all_rows sizes all ++ zeros),
    length-append (all_rows sizes all) zeros,
    length-all sizes all,
  )

  module _ (head : PdbHead) (heads : (t : ℕ) → t < 64 → slice_index head.rows t ≡ among counts 0 0x2d t) (entries : length counts ≡ 64)
      (between : (t : ℕ) → 0x2d ≤ t → t < 0x30 → slice_index counts t ≡ 0) (above : (t : ℕ) → 0x38 ≤ t → slice_index counts t ≡ 0) where
    count_back : (t : ℕ) → t < 64 → count_in head stream t ≡ slice_index counts t
    count_back t h =
        elim (cases_lt t 0x2d) [
          | inl low ↦ ap (λ b. if b then slice_index head.rows t else (if nat_lt t 0x30 then 0 else if nat_lt t 0x38 then table_rows stream t else 0))
              (lt-ltb t 0x2d low)
              ∙ heads t h ∙ among-in counts 0 0x2d t (omega arith) (omega (arith, low))
          | inr from ↦ ap (λ b. if b then slice_index head.rows t else (if nat_lt t 0x30 then 0 else if nat_lt t 0x38 then table_rows stream t else 0))
              (le-ltb t 0x2d from)
              ∙ elim (cases_lt t 0x30) [
                | inl low ↦ ap (λ b. if b then 0 else if nat_lt t 0x38 then table_rows stream t else 0) (lt-ltb t 0x30 low) ∙ sym (between t from low)
                | inr past ↦ ap (λ b. if b then 0 else if nat_lt t 0x38 then table_rows stream t else 0) (le-ltb t 0x30 past)
                    ∙ elim (cases_lt t 0x38) [
                      | inl low ↦ ap (λ b. if b then table_rows stream t else 0) (lt-ltb t 0x38 low) ∙ table_rows_back t h
                          ∙ among-in counts 0x30 8 t past (omega (arith, low))
                      | inr last ↦ ap (λ b. if b then table_rows stream t else 0) (le-ltb t 0x38 last) ∙ sym (above t last)
                    ]
              ]
        ]

    pub sizes_back : sizes_in head stream ≡ sizes
    sizes_back =
        ap (λ heap. record { heap = heap; rows = map (count_in head stream) (range_with_len 0 64) }) heap_back
        ∙ ap (λ rows. record { heap = bytes.heap_bits heaps; rows = rows })
        (ap (λ n. map (count_in head stream) (range_with_len 0 n)) (sym entries)
        ∙ map-back (count_in head stream) counts 0 (λ i h. ap (count_in head stream) (zero-add i) ∙ count_back i (omega (arith, h, entries))))

    module _ (methods : (slice_index counts 0x31 ≡ 0) ⊎ (slice_index counts 0x31 ≡ slice_index counts 6)) (lens : AreCounted counts all) where
      fields_good : IsAccepted (TableFieldFaults (slice_index head.rows 6) stream)
      fields_good code at (short place len field from past) = omega (arith, past, ends_within (table_fields stream) place len field, start, length_stream)
      fields_good code at (heap_bits there large) = omega (arith, large, heap_back, heap-bits-few heaps)
      fields_good code at (foreign there (inl low)) = low (omega (arith, valid_back, high))
      fields_good code at (foreign there (inr past)) = omega (arith, past, valid_back, high, number-below has_rows 8 0x30)
      fields_good code at (rows t h has there many) = omega (arith, many, table_rows_back t h, among-small counts 0x30 8 16777215 small t)
      fields_good code at (method_rows has there some differ) =
          let read = table_rows_back 0x31 (omega arith) ∙ among-in counts 0x30 8 0x31 (omega arith) (omega arith) in
          elim methods [
            | inl none ↦ some (read ∙ none)
            | inr same ↦ differ (read ∙ same ∙ sym (heads 6 (omega arith) ∙ among-in counts 0 0x2d 6 (omega arith) (omega arith)))
          ]

      rows_total : sum (row_fields sizes debug_tables) ≡ rows_sum sizes all
      rows_total = sum-rows sizes debug_tables
          ∙ rows-counted _ _ _ _ _ _ _ _ _ _ _ _ _ _ _ _ _ _ _ _ _ _ _ _ lens.documents lens.methods lens.scopes lens.variables lens.constants lens.imports
          lens.machines lens.customs

      bounds_good : IsAccepted (BoundFaults sizes stream)
      bounds_good code at (bounds place len field past) = omega (
        arith,
        past,
        start,
        ends_within (row_fields sizes debug_tables) place len field,
        rows_total,
        length_stream,
      )

      pub tables_good : IsAccepted (TablesFaults head stream)
      tables_good =
          accepted_then (TableFieldFaults (slice_index head.rows 6) stream) (BoundFaults (sizes_in head stream) stream) fields_good
          (subst (λ (some : Sizes). IsAccepted (BoundFaults some stream)) (sym sizes_back) bounds_good)
