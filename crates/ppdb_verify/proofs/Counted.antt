-- There is debug information for each method or for none.
use Rattle.std.{proofs.Common.{◌≡◌, ◌≢◌, ℕ, ◌≤◌, List, [], ◌∷◌, length, inl, inr, refl, sym, ◌∙◌, false, arith}, specs.Prelude.{◌==◌, slice_index}}
use Rattle.std.{proofs.lemmas.Bool.{cases_eq}, proofs.lemmas.Bool.Decides.{nat_tests}, specs.Int.{bit_at}, proofs.lemmas.List.FromFn.{get_or-map-range_with_len}}
use Rattle.ppdb_base.{specs.declared.code.Code.TheVariants.{TablesShort, MethodRows}, specs.First.{IsAccepted}, specs.Place.{at_byte}, proofs.Fields.{sum_append}}
use Rattle.metadata_root.specs.{declared.kind.StreamKind.TheVariants.{Tables}, Streams.{Streams, bytes_of}}
use Rattle.ppdb_tables.specs.{Counts.{count_fields, counts_below, count_place}, declared.head.PdbHead.{PdbHead}, RawTables.{count}, Tables.{TableFieldFaults}}
use Rattle.ppdb_tables.specs.{Tables.{TablesFaults, count_in, table_fields, table_rows, tables_in, valid}, Tables.TableFieldFaults.{short, method_rows}}
use Rattle.ppdb_tables.proofs.RowCounts.{counts_mono, sum-replicate}
use Rattle.ppdb_verify.proofs.Fitting.{fields_fit}

not_set : (bits table : ℕ) → bit_at bits table ≢ 1 → (bit_at bits table == 1) ≡ false
not_set bits table apart = grind (arith, nat_tests, apart)

module _ (methods : ℕ) (stream : List ℕ) (accepted : IsAccepted (TableFieldFaults methods stream)) where
  place_within : (table : ℕ) → table ≤ 64 → count_place 24 (valid stream) table ≤ length stream
  place_within table le =
      let fit = fields_fit (table_fields stream) (length stream) (λ at len is from past. accepted TablesShort (at_byte 4 at) (short at len is from past)) in
      let parts = sum_append (4 ∷ 1 ∷ 1 ∷ 1 ∷ 1 ∷ 8 ∷ 8 ∷ []) (count_fields (valid stream)) in
      let counted = sum-replicate (counts_below (valid stream) 64) 4 in
      let up = counts_mono (valid stream) table 64 le in
      omega (arith, fit, parts, counted, up)

  method_rows_fit : table_rows stream 0x31 ≢ 0 → table_rows stream 0x31 ≡ methods
  method_rows_fit some = elim (cases_eq (bit_at (valid stream) 0x31) 1) [
    | inl set ↦ elim (cases_eq (table_rows stream 0x31) methods) [
      | inl same ↦ same
      | inr other ↦ absurd (accepted MethodRows (at_byte 4 (count_place 24 (valid stream) 0x31)) (method_rows set (place_within 0x31 (omega arith)) some other))
    ]
    | inr clear ↦ absurd (some (rw (not_set (valid stream) 0x31 clear) refl))
  ]

-- where there is debug information of methods, there is one row for each
pub methods_fit : (streams : Streams) (head : PdbHead) → IsAccepted (TablesFaults head (bytes_of streams Tables))
    → count (tables_in streams head) 0x31 ≢ 0 → count (tables_in streams head) 0x31 ≡ count (tables_in streams head) 0x06
methods_fit streams head accepted some =
    let stream = bytes_of streams Tables in
    let counted : count (tables_in streams head) 0x31 ≡ table_rows stream 0x31 =
    get_or-map-range_with_len (count_in head stream) 0 64 0x31 0x31 0 (omega arith) (omega arith) in
    let methods : slice_index head.rows 6 ≡ count (tables_in streams head) 0x06 =
    sym (get_or-map-range_with_len (count_in head stream) 0 64 6 6 0 (omega arith) (omega arith)) in
    counted ∙ method_rows_fit (slice_index head.rows 6) stream (λ code at invalid. accepted code at (inl invalid)) (λ none. some (counted ∙ none)) ∙ methods
