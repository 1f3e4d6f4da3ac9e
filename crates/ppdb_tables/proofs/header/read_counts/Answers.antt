use Rattle.std.{proofs.Common.{◌≡◌, ℕ, ◌+◌, ◌≤◌, length, subst, sym, ap, ◌∙◌, arith, below_more, slice_index, set}, specs.Int.{bit_at}}
use Rattle.std.proofs.lemmas.{Bool.{iff_false}, List.{length-replicate, length-set, get_or-set_same, get_or-set_other}, List.FromFn.{fill_by_all}}
use Rattle.std.proofs.lemmas.Result.{err_from_is_err_and}
use Rattle.ppdb_base.specs.{declared.code.Code.TheVariants.{MethodRows}, Place.{at_byte}}
use Rattle.ppdb_tables.{specs.Counts.{IsCountFault, count_place}, specs.Tables.{valid, table_rows, count_in}, proofs.RowCounts.{counts-zero, count_is, place_is}}
use Rattle.ppdb_tables.proofs.{RowCounts.{has_count}, FirstOfTables.{table_part, count_is_first, methods_are_first, fields_accepted, start_is, kept_is, fit_step}}
use Rattle.ppdb_tables.proofs.header.read_counts.Goals as goal

pub loop-table-init : goal.loop-table-init
loop-table-init c = record {
  place = omega (arith, counts-zero (valid c.args.bytes.now));
  small = omega arith;
  inside = omega (arith, c.requires.long);
  size = length-replicate {A = ℕ} 64 0;
  few = λ t lt. absurd (omega (arith, lt));
  methods = λ lt. absurd (omega (arith, lt));
  rows = λ t lt. absurd (omega (arith, lt));
}

pub returns-in_err-count-clause-first : goal.returns-in_err-count-clause-first
returns-in_err-count-clause-first c =
    let p = err_from_is_err_and c.from_residual.result c.from_residual.ensures.1 in
    let stream = c.args.bytes.now in
    let table = c.loop-table.table in
    let i = c.loop-table.invariant in
    let fault = c.in_err-count.field-0.0 in
    rw (p.1, p.2) (count_is_first (slice_index c.args.head.now.rows 6) stream table c.loop-table.at fault c.loop-table-test.true i.place i.inside
    c.requires.heap c.requires.known i.few i.methods
    (subst (λ bits. IsCountFault table_part stream bits table c.loop-table.at fault) c.requires.bits c.in_err-count.ensures.fault))

pub returns-then-differ_from_methods-clause-first : goal.returns-then-differ_from_methods-clause-first
returns-then-differ_from_methods-clause-first c =
    let stream = c.args.bytes.now in
    let table = c.loop-table.table in
    let i = c.loop-table.invariant in
    let found = c.in_ok-count.ensures in
    let count = c.in_ok-count.count in
    let is : count ≡ table_rows stream table = count_is stream 24 c.args.bits (valid stream) table c.loop-table.at c.requires.bits i.place count found.count in
    let differ = c.differ_from_methods.ensures.0 c.if-differ_from_methods.true in
    let set = has_count stream 24 (valid stream) table (λ none. differ.1 (is ∙ none)) in
    let end : count_place 24 (valid stream) table + 4 ≤ length stream =
    omega (arith, found.end.0, found.end.1, i.place, ap (λ bits. bit_at bits table) c.requires.bits, set) in
    methods_are_first (slice_index c.args.head.now.rows 6) stream table c.loop-table-test.true set c.requires.heap c.requires.known i.few i.methods
    c.fault.result differ.0
    (c.fault.ensures ∙ ap (λ b. record { code = MethodRows; place = at_byte 4 b }) i.place) end (omega (arith, is, found.few)) (λ none. differ.1 (is ∙ none))
    (λ same. differ.2 (is ∙ same))

pub loop-table-preserved : goal.loop-table-preserved
loop-table-preserved c =
    let stream = c.args.bytes.now in
    let table = c.loop-table.table in
    let i = c.loop-table.invariant in
    let old = c.loop-table.rows in
    let found = c.in_ok-count.ensures in
    let count = c.in_ok-count.count in
    let kept = c.rows_of.result in
    let is : count ≡ table_rows stream table = count_is stream 24 c.args.bits (valid stream) table c.loop-table.at c.requires.bits i.place count found.count in
    record {
      place = place_is stream 24 c.args.bits (valid stream) table c.loop-table.at c.requires.bits i.place c.in_ok-count.end found.end.0;
      small = omega (arith, i.small, found.end.0);
      inside = found.end.1;
      size = length-set old table kept ∙ i.size;
      few = below_more (λ t. table_rows stream t ≤ 16777215) table i.few (omega (arith, is, found.few));
      methods = fit_step (slice_index c.args.head.now.rows 6) stream table count is (iff_false c.differ_from_methods.ensures c.if-differ_from_methods.false)
          i.methods;
      rows = below_more (λ t. slice_index (set old table kept) t ≡ count_in c.args.head.now stream t) table
          (λ t lt. get_or-set_other old table t kept 0 (λ e. absurd (omega (arith, lt, e))) ∙ i.rows t lt)
          (get_or-set_same old table kept 0 (omega (arith, i.size, c.loop-table-test.true))
          ∙ kept_is c.args.head.now stream table count kept is c.rows_of.ensures);
    }

pub returns-clause-start : goal.returns-clause-start
returns-clause-start c =
    let i = c.loop-table.invariant in
    let all : c.loop-table.table ≡ 64 = omega (arith, c.loop-table-test.false, c.loop-table.auto.table-end) in
    (i.place ∙ ap (count_place 24 (valid c.args.bytes.now)) all ∙ sym (start_is c.args.bytes.now), i.inside)

pub returns-clause-accepted : goal.returns-clause-accepted
returns-clause-accepted c =
    let stream = c.args.bytes.now in
    let i = c.loop-table.invariant in
    let all : c.loop-table.table ≡ 64 = omega (arith, c.loop-table-test.false, c.loop-table.auto.table-end) in
    let end : c.loop-table.at ≡ count_place 24 (valid stream) 64 = i.place ∙ ap (count_place 24 (valid stream)) all in
    fields_accepted (slice_index c.args.head.now.rows 6) stream (omega (arith, end, i.inside, start_is stream)) c.requires.heap c.requires.known (λ t lt.
    i.few t (omega (arith, all, lt))) (i.methods (omega (arith, all)))

pub returns-clause-rows : goal.returns-clause-rows
returns-clause-rows c =
    let i = c.loop-table.invariant in
    let all : c.loop-table.table ≡ 64 = omega (arith, c.loop-table-test.false, c.loop-table.auto.table-end) in
    fill_by_all (count_in c.args.head.now c.args.bytes.now) c.loop-table.rows 64 0 i.size (λ t lt. i.rows t (omega (arith, all, lt)))
