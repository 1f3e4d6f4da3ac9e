use Rattle.std.proofs.{Common.{◌≡◌, ℕ, ◌+◌, ◌*◌, take, sum, get_or, subst, sym, ap, ◌∙◌, arith, below_more, slice_index, set}, lemmas.List.{length-replicate}}
use Rattle.std.proofs.lemmas.{List.{length-set, get_or-set_same, get_or-set_other}, Result.{err_from_is_err_and}}
use Rattle.ppdb_tables.specs.{Layouts.{debug_tables, row_fields, row_len}, Tables.{rows_start}, Bounds.{StandsAt, IsRowFault}}
use Rattle.ppdb_tables.proofs.FirstOfRows.{table, len_is, row_some, next_table, row_is_first, rows_accepted}
use Rattle.ppdb_tables.proofs.bounds.place_tables.Goals as goal

pub rows_end-requires-clause-inside : goal.rows_end-requires-clause-inside
rows_end-requires-clause-inside c = c.loop-index.invariant.inside

pub rows_end-requires-clause-some : goal.rows_end-requires-clause-some
rows_end-requires-clause-some c =
    let index = c.loop-index.index in
    let is : get_or c.args.lens.now index 0 ≡ row_len c.args.sizes.now (table index) =
    ap (λ lens. get_or lens index 0) c.requires.lens ∙ len_is c.args.sizes.now index c.loop-index-test.true in
    omega (arith, is, row_some c.args.sizes.now index c.loop-index-test.true)

pub loop-index-init : goal.loop-index-init
loop-index-init c = record {
  place = omega (arith, c.requires.start);
  inside = c.requires.inside;
  size = length-replicate {A = ℕ} 8 0;
  places = λ i lt. absurd (omega (arith, lt));
}

pub returns-in_err-end-clause-first : goal.returns-in_err-end-clause-first
returns-in_err-end-clause-first c =
    let p = err_from_is_err_and c.from_residual.result c.from_residual.ensures.1 in
    let index = c.loop-index.index in
    let sizes = c.args.sizes.now in
    let i = c.loop-index.invariant in
    let is : get_or c.args.lens.now index 0 ≡ row_len sizes (table index) =
    ap (λ lens. get_or lens index 0) c.requires.lens ∙ len_is sizes index c.loop-index-test.true in
    rw (p.1, p.2) (row_is_first sizes c.args.bytes.now index c.loop-index.at c.in_err-end.field-0.0 c.loop-index-test.true i.place
    (subst (λ len. IsRowFault c.args.bytes.now c.loop-index.at (slice_index sizes.rows (48 + index)) len c.in_err-end.field-0.0) is c.in_err-end.ensures.fault))

pub loop-index-preserved : goal.loop-index-preserved
loop-index-preserved c =
    let index = c.loop-index.index in
    let sizes = c.args.sizes.now in
    let i = c.loop-index.invariant in
    let end = c.in_ok-end.ensures.end in
    let old = c.loop-index.places in
    let at = c.loop-index.at in
    let lt = c.loop-index-test.true in
    let is : get_or c.args.lens.now index 0 ≡ row_len sizes (table index) = ap (λ lens. get_or lens index 0) c.requires.lens ∙ len_is sizes index lt in
    let next : c.in_ok-end.end ≡ rows_start c.args.bytes.now + sum (row_fields sizes (take (index + 1) debug_tables)) =
    omega (arith, end.0, i.place, next_table sizes index lt, ap (λ len. slice_index sizes.rows (48 + index) * len) is) in
    record {
      place = next;
      inside = end.1;
      size = length-set old index at ∙ i.size;
      places = below_more (λ k. StandsAt sizes c.args.bytes.now k (slice_index (set old index at) k)) index
          (λ k before. subst (StandsAt sizes c.args.bytes.now k) (sym (get_or-set_other old index k at 0 (λ e. absurd (omega (arith, before, e)))))
          (i.places k before))
          (subst (StandsAt sizes c.args.bytes.now index) (sym (get_or-set_same old index at 0 (omega (arith, i.size, lt))))
          (record { begins = i.place; ends = omega (arith, next, end.1) }));
    }

pub returns-clause-places : goal.returns-clause-places
returns-clause-places c =
    let i = c.loop-index.invariant in
    let all : c.loop-index.index ≡ 8 = omega (arith, c.loop-index-test.false, c.loop-index.auto.index-end) in
    λ k lt. i.places k (omega (arith, all, lt))

pub returns-clause-accepted : goal.returns-clause-accepted
returns-clause-accepted c =
    let i = c.loop-index.invariant in
    let all : c.loop-index.index ≡ 8 = omega (arith, c.loop-index-test.false, c.loop-index.auto.index-end) in
    let end : c.loop-index.at ≡ rows_start c.args.bytes.now + sum (row_fields c.args.sizes.now debug_tables) =
    i.place ∙ ap (λ k. rows_start c.args.bytes.now + sum (row_fields c.args.sizes.now (take k debug_tables))) all in
    rows_accepted c.args.sizes.now c.args.bytes.now (omega (arith, end, i.inside))
