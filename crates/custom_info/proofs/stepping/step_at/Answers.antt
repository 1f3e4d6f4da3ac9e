use Rattle.std.proofs.{Common.{sym, arith}, lemmas.Result.{err_from_is_err_and}}
use Rattle.custom_info.proofs.StepsLeft.{at_end, no_pause, no_resume, no_method, a_step}
use Rattle.custom_info.proofs.stepping.step_at.Goals as goal

pub returns-then-at-blob : goal.returns-then-at-blob
returns-then-at-blob c = at_end c.args.methods c.args.blob.now c.args.at c.if-at-blob.true

pub returns-in_err-pause : goal.returns-in_err-pause
returns-in_err-pause c =
    let p = err_from_is_err_and c.from_residual.result c.from_residual.ensures.1 in
    rw (p.1, p.2) (no_pause c.args.methods c.args.blob.now c.args.at c.in_err-pause.field-0.0 (omega arith) (sym c.in_err-pause.ensures.found))

pub returns-in_err-resume : goal.returns-in_err-resume
returns-in_err-resume c =
    let p = err_from_is_err_and c.from_residual-in_err-resume.result c.from_residual-in_err-resume.ensures.1 in
    rw (p.1, p.2) (no_resume c.args.methods c.args.blob.now c.args.at c.in_ok-pause.pause c.in_ok-pause.pause_len c.in_err-resume.field-0.0
    (sym c.in_ok-pause.ensures.found) (sym c.in_err-resume.ensures.found))

pub returns-in_err-method : goal.returns-in_err-method
returns-in_err-method c =
    let p = err_from_is_err_and c.from_residual-in_err-method.result c.from_residual-in_err-method.ensures.1 in
    rw (p.1, p.2) (no_method c.args.methods c.args.blob.now c.args.at c.in_ok-pause.pause c.in_ok-pause.pause_len c.in_ok-resume.resume
    c.in_ok-resume.resume_len c.in_err-method.field-0.0 (sym c.in_ok-pause.ensures.found) (sym c.in_ok-resume.ensures.found)
    (sym c.in_err-method.ensures.found))

pub returns : goal.returns
returns c = (
  a_step c.args.methods c.args.blob.now c.args.at c.in_ok-pause.pause c.in_ok-pause.pause_len c.in_ok-resume.resume c.in_ok-resume.resume_len
      c.in_ok-method.method c.in_ok-method.method_len
      (sym c.in_ok-pause.ensures.found) (sym c.in_ok-resume.ensures.found) (sym c.in_ok-method.ensures.found),
  c.in_ok-method.ensures.within,
)
