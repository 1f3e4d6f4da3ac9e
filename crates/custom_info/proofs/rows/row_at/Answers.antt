use Rattle.std.proofs.{Common.{sym, arith}, lemmas.Result.{err_from_is_err_and}}
use Rattle.custom_info.proofs.RowsLeft.{at_end, no_row, a_row}
use Rattle.custom_info.proofs.rows.row_at.Goals as goal

pub returns-then-at-blob : goal.returns-then-at-blob
returns-then-at-blob c = at_end c.args.documents c.args.blob.now c.args.at c.if-at-blob.true

pub returns-in_err-row : goal.returns-in_err-row
returns-in_err-row c =
    let p = err_from_is_err_and c.from_residual.result c.from_residual.ensures.1 in
    rw (p.1, p.2) (no_row c.args.documents c.args.blob.now c.args.at c.in_err-row.field-0.0 (omega arith) (sym c.in_err-row.ensures.found))

pub returns : goal.returns
returns c = (a_row c.args.documents c.args.blob.now c.args.at c.in_ok-row.row c.in_ok-row.len (sym c.in_ok-row.ensures.found), c.in_ok-row.ensures.within)
