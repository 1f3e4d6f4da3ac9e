-- The tables that stand in the stream, from where they were placed.
use Rattle.std.{proofs.Common.{◌≡◌, ℕ, ◌+◌, ◌*◌, ◌<◌, ◌≤◌, inl, inr, List, length, map, sum, Some, refl, sym, ap, ◌∙◌, arith, lit≤}, specs.Prelude.{slice_get}}
use Rattle.std.{specs.Prelude.{slice_index}, specs.List.{range_with_len}, proofs.lemmas.Bool.{cases_lt, lt-ltb, le-ltb}}
use Rattle.std.proofs.lemmas.{Option.{get_or_from_slice_get, slice_get_within}, List.{get_or_past}, List.FromFn.{length-map-range_with_len}}
use Rattle.std.proofs.lemmas.List.FromFn.{get_or-map-range_with_len}
use Rattle.ppdb_base.specs.First.{IsAccepted}
use Rattle.row_layout.specs.declared.column.{Sizes.{Sizes}, Column.{Column}}
use Rattle.ppdb_tables.specs.declared.head.PdbHead.{PdbHead}
use Rattle.ppdb_tables.specs.declared.table.Table as declared
use Rattle.ppdb_tables.specs.{Head.{PdbFaults, IsHeadOf}, Layouts.{debug_tables, widths_of, row_len}, Tables.{count_in, sizes_in, table_rows, table_place, rows_at}}
use Rattle.ppdb_tables.{specs.TableOf.{IsTableAt, rows_of}, specs.RawTables.{RawTables}, specs.Bounds.{StandsAt}, proofs.FirstOfRows.{table, no_table, number_is}}
use Rattle.ppdb_tables.proofs.{FirstOfRows.{next_table}, FirstOfHead.{few_rows}}

-- a table that was placed ends in the stream
pub table_fits : (sizes : Sizes) (stream : List ℕ) (index number : ℕ) (columns : List Column) (widths : List ℕ) (place : ℕ)
    → slice_get debug_tables index ≡ Some (number, columns)
    → StandsAt sizes stream index place → widths ≡ widths_of sizes columns → place + slice_index sizes.rows number * sum widths ≤ length stream
unfolding table
table_fits sizes stream index number columns widths place listed stands is =
    let lt : index < 8 = slice_get_within debug_tables index (number, columns) listed in
    let there : table index ≡ (number, columns) =
    get_or_from_slice_get debug_tables index (number, columns) no_table listed in
    let number_here : 0x30 + index ≡ number = sym (number_is index lt) ∙ ap (λ (t : ℕ × List Column). t.0) there in
    let len : row_len sizes (table index) ≡ sum widths = ap (row_len sizes) there ∙ ap sum (sym is) in
    let product : slice_index sizes.rows (0x30 + index) * row_len sizes (table index) ≡ slice_index sizes.rows number * sum widths =
    ap (λ n. slice_index sizes.rows n * row_len sizes (table index)) number_here ∙ ap (λ n. slice_index sizes.rows number * n) len in
    omega (arith, stands.begins, stands.ends, next_table sizes index lt, product)

-- its rows are those that the stream holds
pub rows_are : {X : Type 0} {N : ℕ} (row_of : List ℕ → List ℕ → X) (sizes : Sizes) (stream : List ℕ) (number : ℕ) (columns : List Column) (place count : ℕ)
    (layout : List ℕ) (t : declared.Table N)
    → IsTableAt stream place count layout t → count ≡ slice_index sizes.rows number → layout ≡ widths_of sizes columns → place ≡ table_place sizes stream number
    → rows_of row_of t ≡ rows_at row_of sizes stream number columns
rows_are row_of sizes stream number columns place count layout t is rows widths here =
    rw (is.bytes, is.rows, is.widths, widths, here, rows) refl

pub table_read : {X : Type 0} {N : ℕ} (row_of : List ℕ → List ℕ → X) (head : PdbHead) (sizes : Sizes) (stream whole : List ℕ) (number : ℕ)
    (columns : List Column) (place count : ℕ) (layout : List ℕ) (t : declared.Table N)
    → sizes ≡ sizes_in head stream → stream ≡ whole → IsTableAt stream place count layout t → count ≡ slice_index sizes.rows number
    → layout ≡ widths_of sizes columns → place ≡ table_place sizes stream number
    → rows_of row_of t ≡ rows_at row_of (sizes_in head whole) whole number columns
table_read row_of head sizes stream whole number columns place count layout t sized same is rows widths here =
    rows_are row_of sizes stream number columns place count layout t is rows widths here
    ∙ ap (λ z. rows_at row_of z stream number columns) sized
    ∙ ap (λ bytes. rows_at row_of (sizes_in head bytes) bytes number columns) same

-- tables are one where all their parts are
pub same_tables : (a b : RawTables) → a.counts ≡ b.counts → a.texts ≡ b.texts → a.guids ≡ b.guids → a.blobs ≡ b.blobs → a.documents ≡ b.documents
    → a.methods ≡ b.methods → a.scopes ≡ b.scopes → a.variables ≡ b.variables → a.constants ≡ b.constants → a.imports ≡ b.imports → a.machines ≡ b.machines
    → a.customs ≡ b.customs → a ≡ b
same_tables a b counts texts guids blobs documents methods scopes variables constants imports machines customs =
    let parts : record {
      counts = a.counts;
      texts = a.texts;
      guids = a.guids;
      blobs = a.blobs;
      documents = a.documents;
      methods = a.methods;
      scopes = a.scopes;
      variables = a.variables;
      constants = a.constants;
      imports = a.imports;
      machines = a.machines;
      customs = a.customs;
    }
    ≡ record {
      counts = b.counts;
      texts = b.texts;
      guids = b.guids;
      blobs = b.blobs;
      documents = b.documents;
      methods = b.methods;
      scopes = b.scopes;
      variables = b.variables;
      constants = b.constants;
      imports = b.imports;
      machines = b.machines;
      customs = b.customs;
    } =
    rw (counts, texts, guids, blobs, documents, methods, scopes, variables, constants, imports, machines, customs) refl in
    parts

-- ---- the counts are small

module _ (head : PdbHead) (pdb stream : List ℕ) (judged : IsAccepted (PdbFaults pdb)) (is : IsHeadOf pdb head) (few : (t : ℕ) → t < 64
    → table_rows stream t ≤ 16777215) where
  count_small : (t : ℕ) → t < 64 → count_in head stream t ≤ 16777215
  count_small t lt =
      elim (cases_lt t 0x2D) [
        | inl a ↦ rw (lt-ltb _ _ a) (omega (arith, is.rows t lt, few_rows pdb judged t lt))
        | inr b ↦ elim (cases_lt t 0x30) [
          | inl c ↦ rw (le-ltb _ _ b, lt-ltb _ _ c) (lit≤ tt)
          | inr d ↦ elim (cases_lt t 0x38) [
            | inl e ↦ rw (le-ltb _ _ b, le-ltb _ _ d, lt-ltb _ _ e) (few t lt)
            | inr f ↦ rw (le-ltb _ _ b, le-ltb _ _ d, le-ltb _ _ f) (lit≤ tt)
          ]
        ]
      ]

  pub small_counts : (t : ℕ) → slice_index (sizes_in head stream).rows t ≤ 16777215
  small_counts t =
      elim (cases_lt t 64) [
        | inl lt ↦ omega (arith, count_small t lt, get_or-map-range_with_len (count_in head stream) 0 64 t t 0 lt (omega arith))
        | inr past ↦ omega (
          arith,
          get_or_past (map (count_in head stream) (range_with_len 0 64)) t 0
              (omega (arith, past, length-map-range_with_len (count_in head stream) 0 64)),
        )
      ]
