use Rattle.std.proofs.{Common.{Some, refl, sym, ap, ◌∙◌}, lemmas.Result.{err_from_is_err_and}}
use Rattle.blob_grammar.proofs.Steps.{nothing_left}
use Rattle.sequence_points.proofs.Headers.{given_document, row_none, row_out, row_in}
use Rattle.sequence_points.proofs.header.place_after_header.Goals as goal

pub returns-then-column-ne0 : goal.returns-then-column-ne0
returns-then-column-ne0 c = (λ s. given_document c.args.column c.args.limits c.args.blob.now c.args.at s c.if-column-ne0.true, refl, c.requires.within)

pub returns-in_err-row : goal.returns-in_err-row
returns-in_err-row c =
    let p = err_from_is_err_and c.from_residual.result c.from_residual.ensures.1 in
    rw (p.1, p.2) (λ s. row_none c.args.column c.args.limits c.args.blob.now c.args.at s c.in_err-row.field-0.0 c.if-column-ne0.false
    (sym c.in_err-row.ensures.found))

pub returns-then-not-is_row : goal.returns-then-not-is_row
returns-then-not-is_row c = λ s.
    row_out c.args.column c.args.limits c.args.blob.now c.args.at s c.in_ok-row.row c.in_ok-row.len c.if-column-ne0.false (sym c.in_ok-row.ensures.found)
    (sym c.if-not-is_row.ensures) ∙ ap (λ f. nothing_left (Some f)) (sym c.out_of_range.ensures)

pub returns : goal.returns
returns c = (
  λ s. row_in c.args.column c.args.limits c.args.blob.now c.args.at s c.in_ok-row.row c.in_ok-row.len c.if-column-ne0.false
      (sym c.in_ok-row.ensures.found) (sym c.if-not-is_row.ensures),
  refl,
  c.in_ok-row.ensures.within,
)
