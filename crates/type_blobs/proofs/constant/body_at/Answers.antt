use Rattle.std.proofs.{Common.{◌≡◌, false, refl, sym, arith}, lemmas.Result.{err_from_is_err_and}}
use Rattle.type_blobs.{specs.Constants.{is_modifier, is_code}, proofs.Codes.{of_primitive, of_general, general_between, no_code-below, no_code-between}}
use Rattle.type_blobs.proofs.{Codes.{no_code-above}, BodiesTaken.{body_is, code_missing, code_other, no_modifier_there}}
use Rattle.type_blobs.proofs.constant.body_at.Goals as goal
use Rattle.type_blobs.proofs.constant.body_at.Goals.{in_default-via-then-code-lt2, in_default-via-else-code-lt2+else-code-lt14+then-code-lt17}
use Rattle.type_blobs.proofs.constant.body_at.Goals.{in_default-via-else-code-lt2+else-code-lt14+else-code-lt17+else-code-lt19}

pub returns-in_err-code : goal.returns-in_err-code
returns-in_err-code c =
    let p = err_from_is_err_and c.from_residual.result c.from_residual.ensures.1 in
    rw (p.1, p.2) (sym (code_missing c.args.limits c.args.blob.now c.args.at c.in_err-code.field-0.0 c.in_err-code.ensures.missing))

pub returns-in-2-to-13 : goal.returns-in-2-to-13
returns-in-2-to-13 c = body_is c.args.limits c.args.blob.now c.args.at c.in_ok-code.code c.value_at.result c.in_ok-code.ensures.found.0
    (of_primitive c.in_ok-code.code (omega arith) (omega arith)).code_known c.value_at.ensures

pub returns-in-14 : goal.returns-in-14
returns-in-14 c = body_is c.args.limits c.args.blob.now c.args.at 14 c.text_at.result (rw c.in-14.is at c.in_ok-code.ensures.found.0) refl c.text_at.ensures

pub returns-in-17 : goal.returns-in-17
returns-in-17 c = body_is c.args.limits c.args.blob.now c.args.at c.in_ok-code.code c.general_at.result c.in_ok-code.ensures.found.0
    (of_general c.in_ok-code.code (general_between c.in_ok-code.code (omega arith) (omega arith))).code_known c.general_at.ensures

pub returns-in-28 : goal.returns-in-28
returns-in-28 c = body_is c.args.limits c.args.blob.now c.args.at 28 c.object_at.result (rw c.in-28.is at c.in_ok-code.ensures.found.0) refl c.object_at.ensures

pub returns-in_default : goal.returns-in_default
returns-in_default c =
    let none : is_modifier c.in_ok-code.code ≡ false =
    no_modifier_there c.args.limits c.args.blob.now c.args.at c.in_ok-code.code (is_modifier c.in_ok-code.code) c.in_ok-code.ensures.found.0 refl
    c.requires.body in
    let out : is_code c.in_ok-code.code ≡ false = elim c.in_default.branch [
      | in_default-via-then-code-lt2 w ↦ no_code-below c.in_ok-code.code none (omega arith)
      | in_default-via-else-code-lt2+else-code-lt14+then-code-lt17 w ↦ no_code-between c.in_ok-code.code none (omega arith) (omega arith)
      | in_default-via-else-code-lt2+else-code-lt14+else-code-lt17+else-code-lt19 w ↦ no_code-above c.in_ok-code.code none (omega arith) (λ e. omega arith)
    ] in
    rw c.out_of_range.ensures (sym (code_other c.args.limits c.args.blob.now c.args.at c.in_ok-code.code c.in_ok-code.ensures.found.0 out))
