use Rattle.std.proofs.{Common.{sym}, lemmas.Result.{err_from_is_err_and}}
use Rattle.type_blobs.proofs.BodiesTaken.{slice-from, general_refused, general_whole}
use Rattle.type_blobs.proofs.constant.general_at.Goals as goal

pub returns-in_err-target : goal.returns-in_err-target
returns-in_err-target c =
    let p = err_from_is_err_and c.from_residual.result c.from_residual.ensures.1 in
    rw (p.1, p.2) (general_refused c.args.limits c.args.blob.now c.args.code c.args.at c.in_err-target.field-0.0 c.requires.general
    (sym c.in_err-target.ensures.found))

pub returns : goal.returns
returns c =
    rw (slice-from c.args.blob.now c.in_ok-target.end)
    (general_whole c.args.limits c.args.blob.now c.args.code c.args.at c.in_ok-target.target c.in_ok-target.end c.requires.general
    (sym c.in_ok-target.ensures.found) c.in_ok-target.ensures.within)
