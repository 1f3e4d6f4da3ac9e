use Rattle.std.proofs.{Common.{◌≡◌, ◌+◌, ◌<◌, ◌≤◌, [], ◌∷◌, length, drop, Some, sym, ap, ◌∙◌, arith}, lemmas.Result.{err_from_is_err_and}}
use Rattle.blob_grammar.{specs.Grammar.{number}, specs.Reader.{unsigned_at}, proofs.Placed.{placed_ok, unsigned_within}}
use Rattle.sequence_points.{specs.Records.{Sums, sums}, specs.Places.{no_points, points_at, entries_of}, proofs.Offsets.{none_at, first_not_0, at_end, offset_in}}
use Rattle.sequence_points.proofs.Offsets.{offset_out}
use Rattle.sequence_points.proofs.records.offset_after_documents.Goals as goal

pub returns-then-place-blob : goal.returns-then-place-blob
returns-then-place-blob c =
    c.documents.invariant.same ∙ at_end c.args.limits c.args.blob.now c.documents.place (sym c.if-has_point.ensures) c.if-place-blob.true

pub returns-in_err-step : goal.returns-in_err-step
returns-in_err-step c =
    let p = err_from_is_err_and c.from_residual.result c.from_residual.ensures.1 in
    rw (p.1, p.2) (c.documents.invariant.same
    ∙ none_at c.args.limits c.args.blob.now c.documents.place c.in_err-step.field-0.0 c.has_point.result c.has_point.ensures c.else-has_point.either
    c.documents.invariant.within (sym c.in_err-step.ensures.found))

pub returns-in_err-place : goal.returns-in_err-place
returns-in_err-place c =
    let p = err_from_is_err_and c.from_residual-in_err-place.result c.from_residual-in_err-place.ensures.1 in
    rw (p.1, p.2) (c.documents.invariant.same
    ∙ offset_in c.args.limits c.args.blob.now c.documents.place c.in_ok-step.step c.in_ok-step.len (sym c.in_ok-step.ensures.found) (omega arith)
    ∙ ap (λ n. points_at c.args.limits c.args.blob.now c.documents.place (number n ∷ []) (c.documents.place.at + c.in_ok-step.len)) c.if-step-eq0.true
    ∙ c.in_err-place.ensures)

pub documents-smaller : goal.documents-smaller
documents-smaller c =
    let at : c.documents.place.at + c.in_ok-step.len ≤ c.in_ok-place.place.at = c.in_ok-place.ensures.1 in
    let end : c.in_ok-place.place.at ≤ length c.args.blob.now = c.in_ok-place.ensures.2 in
    let some : 1 ≤ c.in_ok-step.len = (unsigned_within (drop c.documents.place.at c.args.blob.now) (c.in_ok-step.step, c.in_ok-step.len)
    (placed_ok c.documents.place.at (unsigned_at (drop c.documents.place.at c.args.blob.now)) (c.in_ok-step.step, c.in_ok-step.len)
    (sym c.in_ok-step.ensures.found))).0 in
    omega arith

pub documents-preserved : goal.documents-preserved
documents-preserved c = record {
  same = c.documents.invariant.same ∙ offset_in c.args.limits c.args.blob.now c.documents.place c.in_ok-step.step c.in_ok-step.len
      (sym c.in_ok-step.ensures.found) (omega arith)
      ∙ ap (λ n. points_at c.args.limits c.args.blob.now c.documents.place (number n ∷ []) (c.documents.place.at + c.in_ok-step.len)) c.if-step-eq0.true
      ∙ c.in_ok-place.ensures.0;
  within = c.in_ok-place.ensures.2;
  offset = let e : (sums (entries_of c.in_ok-place.place)).offset ≡ (sums (entries_of c.documents.place)).offset =
      ap (λ (s : Sums). s.offset) c.in_ok-place.ensures.3 in let k = c.documents.invariant.offset in omega arith;
}

pub returns-then-offset-step-lt536870912 : goal.returns-then-offset-step-lt536870912
returns-then-offset-step-lt536870912 c =
    let small : (sums (entries_of c.documents.place)).offset + c.in_ok-step.step < 536870912 = let k = c.offset.ensures in omega arith in (
      c.documents.invariant.same ∙ offset_in c.args.limits c.args.blob.now c.documents.place c.in_ok-step.step c.in_ok-step.len (sym c.in_ok-step.ensures.found)
          small,
      c.in_ok-step.ensures.within,
      small,
      λ h. first_not_0 c.documents.place c.in_ok-step.step c.has_point-in-documents.result c.has_point-in-documents.ensures c.else-has_point-2.either h,
    )

pub returns-else-offset-step-lt536870912 : goal.returns-else-offset-step-lt536870912
returns-else-offset-step-lt536870912 c =
    let large : 536870912 ≤ (sums (entries_of c.documents.place)).offset + c.in_ok-step.step = let k = c.offset.ensures in omega arith in
    c.documents.invariant.same ∙ offset_out c.args.limits c.args.blob.now c.documents.place c.in_ok-step.step c.in_ok-step.len (sym c.in_ok-step.ensures.found)
    large ∙ ap (λ f. no_points (Some f)) (sym c.out_of_range.ensures)
