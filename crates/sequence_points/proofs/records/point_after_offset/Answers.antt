use Rattle.std.{proofs.Common.{◌≡◌, ◌+◌, ◌<◌, ◌≤◌, length, sym, ap, subst, ◌∙◌, arith}, proofs.lemmas.Result.{err_from_is_err_and}, specs.Int.{w64, cast_signed}}
use Rattle.std.specs.Int.{cast_unsigned}
use Rattle.blob_grammar.specs.{Grammar.{number}, Reader.{Left, push}}
use Rattle.sequence_points.specs.{declared.point.Point.{Point}, declared.place.Place.{Place}, declared.point.Span.TheVariants.{Hidden}, Records.{sums, int_of}}
use Rattle.sequence_points.{specs.Places.{points_left, entries_of, PointIs, place_after, start_of}, proofs.Offsets.{row_none, lines_in, columns_none, columns_in}}
use Rattle.sequence_points.proofs.{Offsets.{hidden_read, zero_int, not_zero_int, small}, Visible.{passed}}
use Rattle.sequence_points.proofs.records.point_after_offset.Goals as goal

pub returns-in_err-lines : goal.returns-in_err-lines
returns-in_err-lines c = λ limits.
    let p = err_from_is_err_and c.from_residual.result c.from_residual.ensures.1 in
    rw (p.1, p.2) (row_none limits c.args.blob.now c.args.place c.args.at (number c.args.step) c.in_err-lines.field-0.0 (sym c.in_err-lines.ensures.found))

pub returns-in-Err : goal.returns-in-Err
returns-in-Err c = λ limits.
    lines_in limits c.args.blob.now c.args.place c.args.step c.args.at c.in_ok-lines.lines c.in_ok-lines.len c.requires.point (sym c.in_ok-lines.ensures.found)
    ∙ columns_none limits c.args.blob.now c.args.place (number c.args.step) c.in_ok-lines.lines (c.args.at + c.in_ok-lines.len) c.in-Err.fault
    (sym c.in-Err.ensures.found)

pub returns-then-columns-eq0 : goal.returns-then-columns-eq0
returns-then-columns-eq0 c = λ limits.
    let zero = zero_int c.in-Ok.found.0 c.in-Ok.ensures.low c.in-Ok.ensures.high c.if-columns-eq0.true in
    let next : place_after (c.args.at + c.in_ok-lines.len + c.in-Ok.found.1) c.args.place.document (c.offset.result + c.args.step) (start_of c.args.place.last)
    ≡ c.after_point.result
    = ap (λ s. place_after (c.args.at + c.in_ok-lines.len + c.in-Ok.found.1) c.args.place.document (c.offset.result + c.args.step) s) (sym c.start.ensures)
    ∙ sym c.after_point.ensures in
    let point : Point = record { offset = c.offset.result + c.args.step; document = c.args.place.document; span = Hidden } in (
      lines_in limits c.args.blob.now c.args.place c.args.step c.args.at c.in_ok-lines.lines c.in_ok-lines.len c.requires.point
          (sym c.in_ok-lines.ensures.found)
          ∙ hidden_read limits c.args.blob.now c.args.place c.args.step c.in_ok-lines.lines (c.args.at + c.in_ok-lines.len) c.in-Ok.found.1
          (c.offset.result + c.args.step) c.in-Ok.found.0
          c.if-lines-eq0.true zero (sym c.in-Ok.ensures.found) (ap (λ n. n + c.args.step) c.offset.ensures)
          ∙ ap (λ p. push point (points_left limits c.args.blob.now p)) next,
      subst (λ (p : Place). p.at ≤ length c.args.blob.now) next c.in-Ok.ensures.within,
      subst (λ (p : Place). (sums (entries_of p)).offset < 536870912) (sym c.after_point.ensures)
          (small c.args.place (c.args.at + c.in_ok-lines.len + c.in-Ok.found.1) (c.offset.result + c.args.step) c.start.result (omega arith)),
    )

pub returns : goal.returns
returns c = λ limits.
    let columns = columns_in limits c.args.blob.now c.args.place c.args.step c.in_ok-lines.lines (c.args.at + c.in_ok-lines.len) c.in-Ok.found.1 c.in-Ok.found.0
    (sym c.in-Ok.ensures.found)
    (not_zero_int c.in_ok-lines.lines c.in-Ok.found.0 c.else-lines-eq0.either) in
    let e = lines_in limits c.args.blob.now c.args.place c.args.step c.args.at c.in_ok-lines.lines c.in_ok-lines.len c.requires.point
    (sym c.in_ok-lines.ensures.found) ∙ columns.goes_on in
    let same : int_of columns.value ≡ cast_signed w64 (cast_unsigned w64 c.in-Ok.found.0) =
    passed (λ z. int_of columns.value ≡ z → int_of columns.value ≡ cast_signed w64 (cast_unsigned w64 c.in-Ok.found.0)) c.in-Ok.found.0 c.in-Ok.ensures.low
    c.in-Ok.ensures.high (λ x. x) columns.is in
    subst (λ (left : Left Point). PointIs limits c.args.blob.now left c.visible_point.result) (sym e) (c.visible_point.ensures limits columns.value same)
