use Rattle.std.proofs.{Common.{[], Some, sym, subst}, lemmas.Result.{err_from_is_err_and}}
use Rattle.ppdb_base.specs.declared.BlobFault.{BlobFault}
use Rattle.blob_grammar.specs.Reading.{Reading}
use Rattle.sequence_points.{specs.Records.{sequence_points}, proofs.Headers.{no_signature, signature_out, no_header, header_read}}
use Rattle.sequence_points.proofs.cursor.PointCursor.new.Goals as goal

pub returns-in_err-signature-clause-err : goal.returns-in_err-signature-clause-err
returns-in_err-signature-clause-err c =
    let p = err_from_is_err_and c.from_residual.result c.from_residual.ensures.1 in
    rw (p.1, p.2) (no_signature c.args.column c.args.limits c.args.blob.now c.in_err-signature.field-0.0 (sym c.in_err-signature.ensures.found))

pub returns-then-limits-signature-clause-err : goal.returns-then-limits-signature-clause-err
returns-then-limits-signature-clause-err c =
    subst (λ (f : BlobFault). Reading (sequence_points c.args.column c.args.limits) c.args.blob.now [] (Some f)) (sym c.out_of_range.ensures)
    (signature_out c.args.column c.args.limits c.args.blob.now c.in_ok-signature.signature c.in_ok-signature.len (sym c.in_ok-signature.ensures.found)
    c.if-limits-signature.true)

pub returns-in_err-place-clause-err : goal.returns-in_err-place-clause-err
returns-in_err-place-clause-err c =
    let p = err_from_is_err_and c.from_residual-in_err-place.result c.from_residual-in_err-place.ensures.1 in
    rw (p.1, p.2) (no_header c.args.column c.args.limits c.args.blob.now c.in_ok-signature.signature c.in_ok-signature.len c.in_err-place.field-0.0
    (sym c.in_ok-signature.ensures.found) c.if-limits-signature.false (c.in_err-place.ensures c.in_ok-signature.signature))

pub returns-clause-ok : goal.returns-clause-ok
returns-clause-ok c =
    header_read c.args.column c.args.limits c.args.blob.now c.in_ok-signature.signature c.in_ok-signature.len c.in_ok-place.place
    (sym c.in_ok-signature.ensures.found) c.if-limits-signature.false
    (c.in_ok-place.ensures.0 c.in_ok-signature.signature) c.in_ok-place.ensures.1
