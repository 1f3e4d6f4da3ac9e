use Rattle.std.{proofs.Common.{◌+◌, ◌≤◌, length, Some, None, pos, ◌+ℤ◌, sym, ap, subst, ◌<◌, ◌∙◌, arith}, specs.Int.{w64, cast_signed, cast_unsigned}}
use Rattle.blob_grammar.specs.{Grammar.{number}, Reader.{push}}
use Rattle.sequence_points.specs.{Places.{no_points, RangeIs, points_left, entries_of, place_after}, declared.place.Place.{Place}, Records.{sums}, Ranges.{is_line}}
use Rattle.sequence_points.{specs.Ranges.{is_column}, proofs.Visible.{passed, no_line, line_out, line_in, no_column, column_out, point_in}}
use Rattle.sequence_points.proofs.records.visible_point.Goals as goal

pub returns-in-Err : goal.returns-in-Err
returns-in-Err c = λ limits value is.
    no_line limits c.args.blob.now c.args.place (number c.args.step) (number c.args.lines) value c.args.at c.has_visible-is_signed.result c.in-Err.fault
    c.has_visible-is_signed.ensures (sym c.in-Err.ensures.found)

pub returns-in_default : goal.returns-in_default
returns-in_default c = λ limits value is.
    line_out limits c.args.blob.now c.args.place (number c.args.step) value c.args.lines c.args.at c.has_visible-is_signed.result c.in-Ok.found.0
    c.in-Ok.found.1 c.line.result
    c.has_visible-is_signed.ensures (sym c.in-Ok.ensures.found) c.line.ensures
    (passed (λ z. RangeIs is_line (pos c.line.result +ℤ z) (pos c.args.lines) None) c.in-Ok.found.0 c.in-Ok.ensures.low c.in-Ok.ensures.high
    c.in_default.ensures) ∙ ap (λ f. no_points (Some f)) (sym c.out_of_range.ensures)

pub returns-in-Err-int_field : goal.returns-in-Err-int_field
returns-in-Err-int_field c = λ limits value is.
    let first = line_in limits c.args.blob.now c.args.place (number c.args.step) value c.args.lines c.args.at c.has_visible-is_signed.result c.in-Ok.found.0
    c.in-Ok.found.1 c.line.result c.in-Some.start_line c.in-Some.end_line
    c.has_visible-is_signed.ensures (sym c.in-Ok.ensures.found) c.line.ensures
    (passed (λ z. RangeIs is_line (pos c.line.result +ℤ z) (pos c.args.lines) (Some (c.in-Some.start_line, c.in-Some.end_line))) c.in-Ok.found.0
    c.in-Ok.ensures.low c.in-Ok.ensures.high c.in-Some.ensures) in
    first.goes_on ∙ no_column limits c.args.blob.now c.args.place (number c.args.step) (number c.args.lines) value first.value (c.args.at + c.in-Ok.found.1)
    c.has_visible-is_signed.result c.in-Err-int_field.fault c.has_visible-is_signed.ensures (sym c.in-Err-int_field.ensures.found)

pub returns-in_default-column_range : goal.returns-in_default-column_range
returns-in_default-column_range c = λ limits value is.
    let first = line_in limits c.args.blob.now c.args.place (number c.args.step) value c.args.lines c.args.at c.has_visible-is_signed.result c.in-Ok.found.0
    c.in-Ok.found.1 c.line.result c.in-Some.start_line c.in-Some.end_line
    c.has_visible-is_signed.ensures (sym c.in-Ok.ensures.found) c.line.ensures
    (passed (λ z. RangeIs is_line (pos c.line.result +ℤ z) (pos c.args.lines) (Some (c.in-Some.start_line, c.in-Some.end_line))) c.in-Ok.found.0
    c.in-Ok.ensures.low c.in-Ok.ensures.high c.in-Some.ensures) in
    first.goes_on ∙ column_out limits c.args.blob.now c.args.place (number c.args.step)
    (number c.args.lines) value first.value c.args.columns (c.args.at + c.in-Ok.found.1) c.has_visible-is_signed.result c.in-Ok-int_field.found.0
    c.in-Ok-int_field.found.1 c.column.result
    c.has_visible-is_signed.ensures is (sym c.in-Ok-int_field.ensures.found) c.column.ensures
    (passed (λ z. RangeIs is_column (pos c.column.result +ℤ z) c.args.columns None) c.in-Ok-int_field.found.0 c.in-Ok-int_field.ensures.low
    c.in-Ok-int_field.ensures.high
    (passed (λ z. RangeIs is_column (pos c.column.result +ℤ cast_signed w64 (cast_unsigned w64 c.in-Ok-int_field.found.0)) z None) c.args.columns c.requires.low
    c.requires.high c.in_default-column_range.ensures)) ∙ ap (λ f. no_points (Some f)) (sym c.out_of_range-in_default-column_range.ensures)

pub returns : goal.returns
returns c = λ limits value is.
    let first = line_in limits c.args.blob.now c.args.place (number c.args.step) value c.args.lines c.args.at c.has_visible-is_signed.result c.in-Ok.found.0
    c.in-Ok.found.1 c.line.result c.in-Some.start_line c.in-Some.end_line
    c.has_visible-is_signed.ensures (sym c.in-Ok.ensures.found) c.line.ensures
    (passed (λ z. RangeIs is_line (pos c.line.result +ℤ z) (pos c.args.lines) (Some (c.in-Some.start_line, c.in-Some.end_line))) c.in-Ok.found.0
    c.in-Ok.ensures.low c.in-Ok.ensures.high c.in-Some.ensures) in
    let next : Place = place_after (c.args.at + c.in-Ok.found.1 + c.in-Ok-int_field.found.1) c.args.place.document (c.offset.result + c.args.step)
    (Some (record { line = c.in-Some.start_line; column = c.in-Some-column_range.start_column })) in (
      first.goes_on ∙ point_in limits c.args.blob.now c.args.place c.args.step c.args.lines value first.value c.args.columns (c.args.at + c.in-Ok.found.1)
          c.has_visible-is_signed.result c.in-Ok-int_field.found.0 c.in-Ok-int_field.found.1 c.column.result
          (c.offset.result + c.args.step) c.in-Some.start_line c.in-Some.end_line c.in-Some-column_range.start_column c.in-Some-column_range.end_column
          c.has_visible-is_signed.ensures is (sym c.in-Ok-int_field.ensures.found) c.column.ensures
          (passed (λ z. RangeIs is_column (pos c.column.result +ℤ z) c.args.columns (Some (
            c.in-Some-column_range.start_column,
            c.in-Some-column_range.end_column,
          ))) c.in-Ok-int_field.found.0 c.in-Ok-int_field.ensures.low c.in-Ok-int_field.ensures.high
          (passed (λ z. RangeIs is_column (pos c.column.result +ℤ cast_signed w64 (cast_unsigned w64 c.in-Ok-int_field.found.0)) z
          (Some (c.in-Some-column_range.start_column, c.in-Some-column_range.end_column))) c.args.columns c.requires.low c.requires.high
          c.in-Some-column_range.ensures))
          first.first_is first.last_is (ap (λ n. n + c.args.step) c.offset.ensures)
          ∙ ap (λ q. push q (points_left limits c.args.blob.now next)) (sym c.seen_point.ensures.point)
          ∙ ap (λ p. push c.seen_point.result.0 (points_left limits c.args.blob.now p)) (sym c.seen_point.ensures.place),
      subst (λ (p : Place). p.at ≤ length c.args.blob.now) (sym c.seen_point.ensures.place) c.in-Ok-int_field.ensures.within,
      subst (λ (p : Place). (sums (entries_of p)).offset < 536870912) (sym c.seen_point.ensures.place) (omega arith),
    )
