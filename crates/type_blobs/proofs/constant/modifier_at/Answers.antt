use Rattle.std.proofs.{Common.{sym}, lemmas.Result.{err_from_is_err_and}}
use Rattle.type_blobs.proofs.{ModifiersTaken.{nothing_there, no_modifier, body_next, a_modifier, no_type}, BodiesTaken.{byte_there}}
use Rattle.type_blobs.proofs.constant.modifier_at.Goals as goal

pub returns-in_default : goal.returns-in_default
returns-in_default c = body_next c.args.limits c.args.blob.now c.args.at (nothing_there c.args.limits c.args.blob.now c.args.at c.in_default.ensures.lookup.3)

pub returns-then-not-is_modifier : goal.returns-then-not-is_modifier
returns-then-not-is_modifier c =
    body_next c.args.limits c.args.blob.now c.args.at (no_modifier c.args.limits c.args.blob.now c.args.at c.in-Some.code.now
    (byte_there c.args.limits c.args.blob.now c.args.at c.in-Some.code.now c.in-Some.ensures.lookup.3.0 (c.in-Some.ensures.lookup.3.1 0))
    (sym c.if-not-is_modifier.ensures))

pub returns-in_err-target : goal.returns-in_err-target
returns-in_err-target c =
    let p = err_from_is_err_and c.from_residual.result c.from_residual.ensures.1 in
    rw (p.1, p.2) (no_type c.args.limits c.args.blob.now c.args.at c.in-Some.code.now c.in_err-target.field-0.0
    (byte_there c.args.limits c.args.blob.now c.args.at c.in-Some.code.now c.in-Some.ensures.lookup.3.0 (c.in-Some.ensures.lookup.3.1 0))
    (sym c.if-not-is_modifier.ensures) (sym c.in_err-target.ensures.found))

pub returns : goal.returns
returns c = (
  a_modifier c.args.limits c.args.blob.now c.args.at c.in-Some.code.now c.in_ok-target.target c.in_ok-target.end
      (byte_there c.args.limits c.args.blob.now c.args.at c.in-Some.code.now c.in-Some.ensures.lookup.3.0 (c.in-Some.ensures.lookup.3.1 0))
      (sym c.if-not-is_modifier.ensures) (sym c.in_ok-target.ensures.found),
  c.in_ok-target.ensures.within,
)
