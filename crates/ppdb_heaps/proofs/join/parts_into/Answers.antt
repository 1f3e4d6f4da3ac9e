use Rattle.std.proofs.{Common.{◌∙◌, Some, None}, lemmas.Result.{err_from_is_err_and}}
use Rattle.ppdb_heaps.{specs.Views.{blobs_of}, proofs.Joins.{joining-starts, joining-ends, joining-none, joining-fault, answer-is}}
use Rattle.ppdb_heaps.proofs.join.parts_into.Goals as goal

pub loop-part-init : goal.loop-part-init
loop-part-init c =
    let e = answer-is c.in_ok-cursor.cursor.left c.in_ok-first.field-0 (Some c.in-Some.first) c.in_ok-first.ensures.answer c.in-Some.is in (
      joining-starts (blobs_of c.args.blobs) c.args.blob.now c.args.into.now c.append.new.self c.separator-separator.result.now c.in_ok-cursor.cursor.separator
          c.in_ok-cursor.cursor.left c.next.new.self.left c.in-Some.first.now
          c.in_ok-cursor.ensures.begun (c.separator-separator.ensures ∙ c.next.ensures.separator) e c.next.ensures.left c.in_ok-append.ensures.ok,
      (c.in-Some.first.now, c.in_ok-append.ensures.ok),
    )

pub returns-in_err-part-clause-fault : goal.returns-in_err-part-clause-fault
returns-in_err-part-clause-fault c =
    let p = err_from_is_err_and c.from_residual-in_err-part.result c.from_residual-in_err-part.ensures.1 in
    let h = c.loop-part.invariant.0 in
    rw (p.1, p.2) (joining-fault (blobs_of c.args.blobs) c.args.blob.now c.separator-separator.result.now h.contents c.loop-part.cursor.left
    c.in_err-part.field-0.0 h.reading c.in_err-part.ensures.answer)

pub returns-in_err-first-clause-fault : goal.returns-in_err-first-clause-fault
returns-in_err-first-clause-fault c =
    let p = err_from_is_err_and c.from_residual-in_err-first.result c.from_residual-in_err-first.ensures.1 in
    rw (p.1, p.2) (joining-fault (blobs_of c.args.blobs) c.args.blob.now c.in_ok-cursor.cursor.separator c.in_ok-cursor.cursor.left.items
    c.in_ok-cursor.cursor.left c.in_err-first.field-0.0 c.in_ok-cursor.ensures.begun c.in_err-first.ensures.answer)

pub returns-in_default-clause-ok : goal.returns-in_default-clause-ok
returns-in_default-clause-ok c =
    let e = answer-is c.in_ok-cursor.cursor.left c.in_ok-first.field-0 None c.in_ok-first.ensures.answer c.in_default.is in
    joining-none (blobs_of c.args.blobs) c.args.blob.now c.args.into.now c.in_ok-cursor.cursor.separator c.in_ok-cursor.cursor.left
    c.in_ok-cursor.ensures.begun e

pub returns-clause-ok : goal.returns-clause-ok
returns-clause-ok c =
    let e = answer-is c.loop-part.cursor.left c.in_ok-part.field-0 None c.in_ok-part.ensures.answer c.in_default-2.is in
    joining-ends (blobs_of c.args.blobs) c.args.blob.now c.args.into.now c.separator-separator.result.now c.loop-part.into c.loop-part.cursor.left
    c.loop-part.invariant.0 e
