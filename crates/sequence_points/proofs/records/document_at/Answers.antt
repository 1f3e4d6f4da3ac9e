use Rattle.std.proofs.{Common.{Some, sym, ap, ◌∙◌, arith}, lemmas.Result.{err_from_is_err_and}}
use Rattle.blob_grammar.specs.Grammar.{number}
use Rattle.sequence_points.{specs.Places.{no_points}, proofs.Offsets.{row_none, row_out, row_in, same_row}}
use Rattle.sequence_points.proofs.records.document_at.Goals as goal

pub returns-in_err-row : goal.returns-in_err-row
returns-in_err-row c =
    let p = err_from_is_err_and c.from_residual.result c.from_residual.ensures.1 in
    rw (p.1, p.2) (row_none c.args.limits c.args.blob.now c.args.place c.args.at (number 0) c.in_err-row.field-0.0 (sym c.in_err-row.ensures.found))

pub returns-then-not-is_row : goal.returns-then-not-is_row
returns-then-not-is_row c =
    row_out c.args.limits c.args.blob.now c.args.place c.args.at c.in_ok-row.row c.in_ok-row.len c.requires.later (sym c.in_ok-row.ensures.found)
    (sym c.if-not-is_row.ensures) ∙ ap (λ f. no_points (Some f)) (sym c.out_of_range.ensures)

pub returns : goal.returns
returns c = (
  row_in c.args.limits c.args.blob.now c.args.place c.args.at c.in_ok-row.row c.in_ok-row.len c.requires.later (sym c.in_ok-row.ensures.found)
      (sym c.if-not-is_row.ensures),
  omega arith,
  c.in_ok-row.ensures.within,
  same_row c.in_ok-row.row c.args.place.document c.args.place.last,
)
