use Rattle.std.proofs.{Common.{◌≡◌, ℕ, ◌≤◌, subst, ap, ◌∙◌, arith, below_more, slice_index, set}, lemmas.List.{length-replicate, length-set, get_or-set_same}}
use Rattle.std.proofs.lemmas.{List.{get_or-set_other}, Result.{err_from_is_err_and}}
use Rattle.ppdb_tables.{specs.Counts.{IsCountFault, count_place}, specs.Head.{referenced, pdb_rows}, proofs.RowCounts.{counts-zero, count_is, place_is}}
use Rattle.ppdb_tables.proofs.FirstOfHead.{pdb_part, count_is_first, fields_accepted}
use Rattle.ppdb_tables.proofs.head.read_rows.Goals as goal

pub loop-table-init : goal.loop-table-init
loop-table-init c = record {
  place = omega (arith, counts-zero (referenced c.args.bytes.now));
  small = omega arith;
  inside = omega (arith, c.requires.long);
  size = length-replicate {A = ℕ} 64 0;
  few = λ t lt. absurd (omega (arith, lt));
  rows = λ t lt. absurd (omega (arith, lt));
}

pub returns-in_err-count-clause-first : goal.returns-in_err-count-clause-first
returns-in_err-count-clause-first c =
    let p = err_from_is_err_and c.from_residual.result c.from_residual.ensures.1 in
    let stream = c.args.bytes.now in
    let table = c.loop-table.table in
    let i = c.loop-table.invariant in
    let fault = c.in_err-count.field-0.0 in
    rw (p.1, p.2) (count_is_first stream table c.loop-table.at fault c.loop-table-test.true i.place i.inside (rw (← c.requires.bits) c.requires.known) i.few
    (subst (λ bits. IsCountFault pdb_part stream bits table c.loop-table.at fault) c.requires.bits c.in_err-count.ensures.fault))

pub loop-table-preserved : goal.loop-table-preserved
loop-table-preserved c =
    let stream = c.args.bytes.now in
    let table = c.loop-table.table in
    let i = c.loop-table.invariant in
    let old = c.loop-table.rows in
    let found = c.in_ok-count.ensures in
    let count = c.in_ok-count.count in
    let is : count ≡ pdb_rows stream table =
    count_is stream 32 c.args.bits (referenced stream) table c.loop-table.at c.requires.bits i.place count found.count in
    record {
      place = place_is stream 32 c.args.bits (referenced stream) table c.loop-table.at c.requires.bits i.place c.in_ok-count.end found.end.0;
      small = omega (arith, i.small, found.end.0);
      inside = found.end.1;
      size = length-set old table count ∙ i.size;
      few = below_more (λ t. pdb_rows stream t ≤ 16777215) table i.few (omega (arith, is, found.few));
      rows = below_more (λ t. slice_index (set old table count) t ≡ pdb_rows stream t) table
          (λ t lt. get_or-set_other old table t count 0 (λ e. absurd (omega (arith, lt, e))) ∙ i.rows t lt)
          (get_or-set_same old table count 0 (omega (arith, i.size, c.loop-table-test.true)) ∙ is);
    }

pub returns-clause-accepted : goal.returns-clause-accepted
returns-clause-accepted c =
    let stream = c.args.bytes.now in
    let i = c.loop-table.invariant in
    let all : c.loop-table.table ≡ 64 = omega (arith, c.loop-table-test.false, c.loop-table.auto.table-end) in
    let end : c.loop-table.at ≡ count_place 32 (referenced stream) 64 = i.place ∙ ap (count_place 32 (referenced stream)) all in
    fields_accepted stream (omega (arith, end, i.inside)) (rw (← c.requires.bits) c.requires.known) (λ t lt. i.few t (omega (arith, all, lt)))
