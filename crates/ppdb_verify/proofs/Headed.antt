-- What was read of #Pdb is what its bytes say.
use Rattle.std.proofs.Common.{◌≡◌, ℕ, ◌%◌, ◌^◌, ◌<◌, ◌≤◌, Bool, true, false, cond, List, [], ◌∷◌, map, inl, inr, refl, sym, ap, subst, ◌∙◌, arith, nat_lt}
use Rattle.std.{specs.Prelude.{slice_index, if◌then◌else◌}, specs.List.{range_with_len}, proofs.lemmas.Bool.{cases_lt, lt-ltb, ltb-true}}
use Rattle.std.proofs.lemmas.List.FromFn.{get_or-map-range_with_len}
use Rattle.ppdb_base.specs.{declared.code.Code.TheVariants.{EntryPoint}, declared.code.Code.{Code}, declared.fault.Place.{Place}, First.{IsAccepted, Then}}
use Rattle.ppdb_base.specs.Place.{at_byte}
use Rattle.metadata_root.specs.{declared.kind.StreamKind.TheVariants.{Tables, Strings, Guids, Blobs}, Streams.{Streams, bytes_of}}
use Rattle.row_layout.specs.declared.column.Sizes.{Sizes}
use Rattle.ppdb_tables.specs.{declared.head.PdbHead.{PdbHead}, Head.{PdbFaults, IsHeadOf, NamesMethod, entry_in, pdb_rows, head_in}, Head.EntryFaults.{entry}}
use Rattle.ppdb_tables.specs.Layouts.{document_columns, method_columns, scope_columns, variable_columns, constant_columns, import_columns, machine_columns}
use Rattle.ppdb_tables.specs.Layouts.{custom_columns, document_row, method_row, scope_row, variable_row, constant_row, import_row, machine_row, custom_row}
use Rattle.ppdb_tables.specs.{RawTables.{RawTables, count}, Tables.{BoundFaults, TableFieldFaults, TablesFaults, count_in, heap_sizes, rows_at, sizes_in}}
use Rattle.ppdb_tables.specs.Tables.{table_rows, tables_in}

-- one function makes one list of another
map_alike : {X : Type 0} (f g : ℕ → X) → ((n : ℕ) → f n ≡ g n) → (ns : List ℕ) → map f ns ≡ map g ns
map_alike f g same [] = refl
map_alike f g same (n ∷ ns) = ap (λ x. x ∷ map f ns) (same n) ∙ ap (λ xs. g n ∷ xs) (map_alike f g same ns)

-- the tables by their sizes
tables_by : Streams → Sizes → RawTables
tables_by streams sizes =
    let stream = bytes_of streams Tables in
    record {
      counts = sizes.rows;
      texts = bytes_of streams Strings;
      guids = bytes_of streams Guids;
      blobs = bytes_of streams Blobs;
      documents = rows_at document_row sizes stream 0x30 document_columns;
      methods = rows_at method_row sizes stream 0x31 method_columns;
      scopes = rows_at scope_row sizes stream 0x32 scope_columns;
      variables = rows_at variable_row sizes stream 0x33 variable_columns;
      constants = rows_at constant_row sizes stream 0x34 constant_columns;
      imports = rows_at import_row sizes stream 0x35 import_columns;
      machines = rows_at machine_row sizes stream 0x36 machine_columns;
      customs = rows_at custom_row sizes stream 0x37 custom_columns;
    }

module _ (pdb : List ℕ) (head : PdbHead) (is : IsHeadOf pdb head) where
  rows_alike : (table : ℕ) → table < 64 → slice_index head.rows table ≡ slice_index (head_in pdb).rows table
  rows_alike table lt = is.rows table lt ∙ sym (get_or-map-range_with_len (pdb_rows pdb) 0 64 table table 0 lt (omega arith))

  counts_alike : (stream : List ℕ) (table : ℕ) → count_in head stream table ≡ count_in (head_in pdb) stream table
  counts_alike stream table = split (nat_lt table 0x2D) refl
    where
      later : ℕ
      later = if nat_lt table 0x30 then 0 else if nat_lt table 0x38 then table_rows stream table else 0

      split : (b : Bool) → nat_lt table 0x2D ≡ b → cond b (slice_index head.rows table) later ≡ cond b (slice_index (head_in pdb).rows table) later
      split true lt = rows_alike table (let l = ltb-true table 0x2D lt in omega (arith, l))
      split false ge = refl

  sizes_alike : (stream : List ℕ) → sizes_in head stream ≡ sizes_in (head_in pdb) stream
  sizes_alike stream = ap (λ rows. record { heap = heap_sizes stream; rows = rows }) (map_alike (count_in head stream) (count_in (head_in pdb) stream)
      (counts_alike stream) (range_with_len 0 64))

  pub tables_alike : (streams : Streams) → tables_in streams head ≡ tables_in streams (head_in pdb)
  unfolding tables_by
  tables_alike streams = ap (tables_by streams) (sizes_alike (bytes_of streams Tables))

  -- the rules of #~ are the same
  pub invalid_alike : (P : (Code → Place → Type 0) → Type 0) (stream : List ℕ) → P (TablesFaults head stream) → P (TablesFaults (head_in pdb) stream)
  invalid_alike P stream holds =
      subst (λ (m : ℕ). P (Then (TableFieldFaults m stream) (BoundFaults (sizes_in (head_in pdb) stream) stream))) (rows_alike 6 (omega arith))
      (subst (λ (sizes : Sizes). P (Then (TableFieldFaults (slice_index head.rows 6) stream) (BoundFaults sizes stream))) (sizes_alike stream) holds)

  -- the rows of the type system's tables
  pub rows_are : (streams : Streams) (table : ℕ) → table < 0x2D → slice_index head.rows table ≡ count (tables_in streams head) table
  rows_are streams table lt =
      let stream = bytes_of streams Tables in
      let under : nat_lt table 0x2D ≡ true = lt-ltb table 0x2D lt in
      let counted : count_in head stream table ≡ slice_index head.rows table = rw under refl in
      sym (get_or-map-range_with_len (count_in head stream) 0 64 table table 0 (omega (arith, lt)) (omega arith) ∙ counted)

  -- the entry point is no row or one that is there
  pub entry_within : (streams : Streams) → IsAccepted (PdbFaults pdb) → head.entry ≤ count (tables_in streams head) 0x06
  entry_within streams accepted =
      let methods : slice_index head.rows 6 ≡ pdb_rows pdb 6 = is.rows 6 (omega arith) in
      let counted : slice_index head.rows 6 ≡ count (tables_in streams head) 6 = rows_are streams 6 (omega arith) in
      let at = is.entry in
      elim (cases_lt (pdb_rows pdb 6) (entry_in pdb % 2 ^ 24)) [
        | inl over ↦ absurd (accepted EntryPoint (at_byte 3 20)
            (inr ((λ code at invalid. accepted code at (inl invalid)), entry (λ zero. not_zero zero over) (λ names. not_named names over))))
        | inr within ↦ omega (arith, within, methods, counted, at)
      ]
    where
      not_zero : entry_in pdb ≡ 0 → pdb_rows pdb 6 < entry_in pdb % 2 ^ 24 → ⊥
      not_zero zero over = omega (arith, zero, over)

      not_named : NamesMethod (pdb_rows pdb 6) (entry_in pdb) → pdb_rows pdb 6 < entry_in pdb % 2 ^ 24 → ⊥
      not_named names over = omega (arith, names.1, names.2, names.3, over)
