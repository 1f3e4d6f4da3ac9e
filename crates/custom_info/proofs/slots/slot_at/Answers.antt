use Rattle.std.proofs.{Common.{◌+◌, sym, ap, ◌∙◌, arith}, lemmas.Result.{err_from_is_err_and}}
use Rattle.blob_grammar.specs.Reader.{push}
use Rattle.custom_info.{specs.HoistedScopes.{slots_left}, proofs.SlotsLeft.{at_end, no_start, no_length, a_slot}}
use Rattle.custom_info.proofs.slots.slot_at.Goals as goal

pub returns-then-at-blob : goal.returns-then-at-blob
returns-then-at-blob c = at_end c.args.blob.now c.args.at c.if-at-blob.true

pub returns-in_err-start : goal.returns-in_err-start
returns-in_err-start c =
    let p = err_from_is_err_and c.from_residual.result c.from_residual.ensures.1 in
    rw (p.1, p.2) (no_start c.args.blob.now c.args.at c.in_err-start.field-0.0 (omega arith) (sym c.in_err-start.ensures.found))

pub returns-in_err-length : goal.returns-in_err-length
returns-in_err-length c =
    let p = err_from_is_err_and c.from_residual-in_err-length.result c.from_residual-in_err-length.ensures.1 in
    rw (p.1, p.2) (no_length c.args.blob.now c.args.at c.in_ok-start.start c.in_ok-start.start_len c.in_err-length.field-0.0 (sym c.in_ok-start.ensures.found)
    (sym c.in_err-length.ensures.found))

pub returns : goal.returns
returns c = (
  a_slot c.args.blob.now c.args.at c.in_ok-start.start c.in_ok-start.start_len c.in_ok-length.length c.in_ok-length.length_len (sym c.in_ok-start.ensures.found)
      (sym c.in_ok-length.ensures.found)
      ∙ ap (λ s. push s (slots_left c.args.blob.now (c.args.at + c.in_ok-start.start_len + c.in_ok-length.length_len))) (sym c.slot_of.ensures),
  c.in_ok-length.ensures.within,
)
