use Rattle.std.proofs.{Common.{sym}, lemmas.Result.{err_from_is_err_and}}
use Rattle.custom_info.proofs.StepsLeft.{no_handler, a_handler}
use Rattle.custom_info.proofs.stepping.AsyncCursor.new.Goals as goal

pub returns-in_err-stored-clause-err : goal.returns-in_err-stored-clause-err
returns-in_err-stored-clause-err c =
    let p = err_from_is_err_and c.from_residual.result c.from_residual.ensures.1 in
    rw (p.1, p.2) (no_handler c.args.methods c.args.blob.now c.in_err-stored.field-0.0 (sym c.in_err-stored.ensures.found))

pub returns-clause-ok : goal.returns-clause-ok
returns-clause-ok c =
    rw c.handler_of.ensures (a_handler c.args.methods c.args.blob.now c.in_ok-stored.stored c.in_ok-stored.at (sym c.in_ok-stored.ensures.found))
