use Rattle.std.{proofs.Common.{◌≡◌, ℕ, ◌+◌, ◌*◌, ◌≤◌, List, length, sum, slice_index, refl, sym, ap, subst, ◌∙◌, arith, lit<}, specs.Prelude.{Some, slice_get}}
use Rattle.std.proofs.lemmas.{Result.{err_from_is_err_and}, List.FromFn.{length-map-range_with_len}}
use Rattle.ppdb_base.{specs.First.{IsAccepted, IsFirst}, proofs.Judging.{first_of_after, accepted_then}}
use Rattle.metadata_root.specs.{declared.kind.StreamKind.TheVariants.{Pdb, Tables}, Streams.{bytes_of}}
use Rattle.row_layout.specs.declared.column.{Sizes.{Sizes}, Column.{Column}}
use Rattle.ppdb_tables.specs.{Bounds.{StandsAt}, Layouts.{debug_tables, widths_of, document_columns, method_columns, scope_columns, variable_columns}}
use Rattle.ppdb_tables.specs.Layouts.{constant_columns, import_columns, machine_columns, custom_columns, document_row, method_row, scope_row, variable_row}
use Rattle.ppdb_tables.specs.{Layouts.{constant_row, import_row, machine_row, custom_row}, Tables.{TablesFaults, TableFieldFaults, BoundFaults, count_in, sizes_in}}
use Rattle.ppdb_tables.proofs.TablesRead.{table_fits, table_read, same_tables, small_counts}
use Rattle.ppdb_tables.proofs.reading.read_tables.Goals as goal

pub returns-in_err-places-clause-first : goal.returns-in_err-places-clause-first
returns-in_err-places-clause-first c =
    let p = err_from_is_err_and c.from_residual-in_err-places.result c.from_residual-in_err-places.ensures.1 in
    let head = c.args.head.now in
    let stream = c.stream_bytes-stream.result.now in
    let fault = c.in_err-places.field-0.0 in
    let header = c.in_ok-header.ensures in
    rw (p.1, p.2) (subst (λ bytes. IsFirst (TablesFaults head bytes) fault) c.stream_bytes-stream.ensures.bytes
    (first_of_after (TableFieldFaults (slice_index head.rows 6) stream) (BoundFaults (sizes_in head stream) stream) fault header.accepted
    (subst (λ sizes. IsFirst (BoundFaults sizes stream) fault) header.sizes c.in_err-places.ensures.first)))

pub returns-clause-accepted : goal.returns-clause-accepted
returns-clause-accepted c =
    let head = c.args.head.now in
    let stream = c.stream_bytes-stream.result.now in
    let header = c.in_ok-header.ensures in
    subst (λ bytes. IsAccepted (TablesFaults head bytes)) c.stream_bytes-stream.ensures.bytes
    (accepted_then (TableFieldFaults (slice_index head.rows 6) stream) (BoundFaults (sizes_in head stream) stream) header.accepted
    (subst (λ sizes. IsAccepted (BoundFaults sizes stream)) header.sizes c.in_ok-places.ensures.accepted))

-- a table that begins at its place ends in the stream, with the rows that are counted
counted : (sizes : Sizes) (stream : List ℕ) (index number : ℕ) (columns : List Column) (widths : List ℕ) (place count : ℕ)
    → slice_get debug_tables index ≡ Some (number, columns)
    → StandsAt sizes stream index place → widths ≡ widths_of sizes columns → count ≡ slice_index sizes.rows number
    → place + count * sum widths ≤ length stream
counted sizes stream index number columns widths place count listed stands is rows =
    rw rows (table_fits sizes stream index number columns widths place listed stands is)

pub at-requires : goal.at-requires
at-requires c = (
  lit< tt,
  (
    lit< tt,
    (
      c.stream_bytes-stream.ensures.short,
      counted c.in_ok-header.header.sizes c.stream_bytes-stream.result.now 0 48 document_columns c.of-layouts.result.documents
          (slice_index c.in_ok-places.places 0) c.rows.result refl (c.in_ok-places.ensures.places 0 (lit< tt)) c.of-layouts.ensures.documents
          c.rows.ensures,
    ),
  ),
)

pub at-requires-2 : goal.at-requires-2
at-requires-2 c = (
  lit< tt,
  (
    lit< tt,
    (
      c.stream_bytes-stream.ensures.short,
      counted c.in_ok-header.header.sizes c.stream_bytes-stream.result.now 1 49 method_columns c.of-layouts.result.methods
          (slice_index c.in_ok-places.places 1) c.rows-2.result refl (c.in_ok-places.ensures.places 1 (lit< tt)) c.of-layouts.ensures.methods
          c.rows-2.ensures,
    ),
  ),
)

pub at-requires-3 : goal.at-requires-3
at-requires-3 c = (
  lit< tt,
  (
    lit< tt,
    (
      c.stream_bytes-stream.ensures.short,
      counted c.in_ok-header.header.sizes c.stream_bytes-stream.result.now 2 50 scope_columns c.of-layouts.result.scopes
          (slice_index c.in_ok-places.places 2) c.rows-3.result refl (c.in_ok-places.ensures.places 2 (lit< tt)) c.of-layouts.ensures.scopes
          c.rows-3.ensures,
    ),
  ),
)

pub at-requires-4 : goal.at-requires-4
at-requires-4 c = (
  lit< tt,
  (
    lit< tt,
    (
      c.stream_bytes-stream.ensures.short,
      counted c.in_ok-header.header.sizes c.stream_bytes-stream.result.now 3 51 variable_columns c.of-layouts.result.variables
          (slice_index c.in_ok-places.places 3) c.rows-4.result refl (c.in_ok-places.ensures.places 3 (lit< tt)) c.of-layouts.ensures.variables
          c.rows-4.ensures,
    ),
  ),
)

pub at-requires-5 : goal.at-requires-5
at-requires-5 c = (
  lit< tt,
  (
    lit< tt,
    (
      c.stream_bytes-stream.ensures.short,
      counted c.in_ok-header.header.sizes c.stream_bytes-stream.result.now 4 52 constant_columns c.of-layouts.result.constants
          (slice_index c.in_ok-places.places 4) c.rows-5.result refl (c.in_ok-places.ensures.places 4 (lit< tt)) c.of-layouts.ensures.constants
          c.rows-5.ensures,
    ),
  ),
)

pub at-requires-6 : goal.at-requires-6
at-requires-6 c = (
  lit< tt,
  (
    lit< tt,
    (
      c.stream_bytes-stream.ensures.short,
      counted c.in_ok-header.header.sizes c.stream_bytes-stream.result.now 5 53 import_columns c.of-layouts.result.imports
          (slice_index c.in_ok-places.places 5) c.rows-6.result refl (c.in_ok-places.ensures.places 5 (lit< tt)) c.of-layouts.ensures.imports
          c.rows-6.ensures,
    ),
  ),
)

pub at-requires-7 : goal.at-requires-7
at-requires-7 c = (
  lit< tt,
  (
    lit< tt,
    (
      c.stream_bytes-stream.ensures.short,
      counted c.in_ok-header.header.sizes c.stream_bytes-stream.result.now 6 54 machine_columns c.of-layouts.result.machines
          (slice_index c.in_ok-places.places 6) c.rows-7.result refl (c.in_ok-places.ensures.places 6 (lit< tt)) c.of-layouts.ensures.machines
          c.rows-7.ensures,
    ),
  ),
)

pub at-requires-8 : goal.at-requires-8
at-requires-8 c = (
  lit< tt,
  (
    lit< tt,
    (
      c.stream_bytes-stream.ensures.short,
      counted c.in_ok-header.header.sizes c.stream_bytes-stream.result.now 7 55 custom_columns c.of-layouts.result.customs
          (slice_index c.in_ok-places.places 7) c.rows-8.result refl (c.in_ok-places.ensures.places 7 (lit< tt)) c.of-layouts.ensures.customs
          c.rows-8.ensures,
    ),
  ),
)

pub invariant_of-result : goal.invariant_of-result
invariant_of-result c =
    let head = c.args.head.now in
    let stream = c.stream_bytes-stream.result.now in
    let sized = c.in_ok-header.ensures.sizes in
    let variables = c.at-4.ensures.widths ∙ c.of-layouts.ensures.variables in
    record {
      short_heaps = (
        omega (arith, ap length c.new.ensures, c.stream_bytes.ensures.short),
        omega (arith, ap length c.new-2.ensures, c.stream_bytes-2.ensures.short),
        omega (arith, ap length c.new-3.ensures, c.stream_bytes-3.ensures.short),
      );
      entries = ap (λ sizes. length sizes.rows) sized ∙ length-map-range_with_len (count_in head stream) 0 64;
      small = λ table. subst (λ sizes. slice_index sizes.rows table ≤ 16777215) (sym sized)
          (small_counts head (bytes_of c.args.root.now Pdb) stream c.requires.judged c.requires.head c.in_ok-header.ensures.few table);
      document_count = c.at.ensures.rows ∙ c.rows.ensures;
      method_count = c.at-2.ensures.rows ∙ c.rows-2.ensures;
      scope_count = c.at-3.ensures.rows ∙ c.rows-3.ensures;
      variable_count = c.at-4.ensures.rows ∙ c.rows-4.ensures;
      constant_count = c.at-5.ensures.rows ∙ c.rows-5.ensures;
      import_count = c.at-6.ensures.rows ∙ c.rows-6.ensures;
      machine_count = c.at-7.ensures.rows ∙ c.rows-7.ensures;
      custom_count = c.at-8.ensures.rows ∙ c.rows-8.ensures;
      narrow = (ap (λ widths. slice_index widths 0) variables, ap (λ widths. slice_index widths 1) variables);
    }

pub returns-clause-tables : goal.returns-clause-tables
returns-clause-tables c =
    let head = c.args.head.now in
    let sizes = c.in_ok-header.header.sizes in
    let stream = c.stream_bytes-stream.result.now in
    let whole = bytes_of c.args.root.now Tables in
    let sized = c.in_ok-header.ensures.sizes in
    let same = c.stream_bytes-stream.ensures.bytes in
    let places = c.in_ok-places.ensures.places in
    same_tables _ _ (ap (λ z. z.rows) (sized ∙ ap (sizes_in head) same))
    (c.new.ensures ∙ c.stream_bytes.ensures.bytes) (c.new-2.ensures ∙ c.stream_bytes-2.ensures.bytes) (c.new-3.ensures ∙ c.stream_bytes-3.ensures.bytes)
    (table_read document_row head sizes stream whole 48 document_columns (slice_index c.in_ok-places.places 0)
    c.rows.result c.of-layouts.result.documents c.at.result sized same c.at.ensures c.rows.ensures c.of-layouts.ensures.documents
    (places 0 (lit< tt)).begins)
    (table_read method_row head sizes stream whole 49 method_columns (slice_index c.in_ok-places.places 1)
    c.rows-2.result c.of-layouts.result.methods c.at-2.result sized same c.at-2.ensures c.rows-2.ensures c.of-layouts.ensures.methods
    (places 1 (lit< tt)).begins)
    (table_read scope_row head sizes stream whole 50 scope_columns (slice_index c.in_ok-places.places 2)
    c.rows-3.result c.of-layouts.result.scopes c.at-3.result sized same c.at-3.ensures c.rows-3.ensures c.of-layouts.ensures.scopes
    (places 2 (lit< tt)).begins)
    (table_read variable_row head sizes stream whole 51 variable_columns (slice_index c.in_ok-places.places 3)
    c.rows-4.result c.of-layouts.result.variables c.at-4.result sized same c.at-4.ensures c.rows-4.ensures c.of-layouts.ensures.variables
    (places 3 (lit< tt)).begins)
    (table_read constant_row head sizes stream whole 52 constant_columns (slice_index c.in_ok-places.places 4)
    c.rows-5.result c.of-layouts.result.constants c.at-5.result sized same c.at-5.ensures c.rows-5.ensures c.of-layouts.ensures.constants
    (places 4 (lit< tt)).begins)
    (table_read import_row head sizes stream whole 53 import_columns (slice_index c.in_ok-places.places 5)
    c.rows-6.result c.of-layouts.result.imports c.at-6.result sized same c.at-6.ensures c.rows-6.ensures c.of-layouts.ensures.imports
    (places 5 (lit< tt)).begins)
    (table_read machine_row head sizes stream whole 54 machine_columns (slice_index c.in_ok-places.places 6)
    c.rows-7.result c.of-layouts.result.machines c.at-7.result sized same c.at-7.ensures c.rows-7.ensures c.of-layouts.ensures.machines
    (places 6 (lit< tt)).begins)
    (table_read custom_row head sizes stream whole 55 custom_columns (slice_index c.in_ok-places.places 7)
    c.rows-8.result c.of-layouts.result.customs c.at-8.result sized same c.at-8.ensures c.rows-8.ensures c.of-layouts.ensures.customs
    (places 7 (lit< tt)).begins)
