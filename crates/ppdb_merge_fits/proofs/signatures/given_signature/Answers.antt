use Rattle.std.{proofs.Common.{Some, sym, ◌∙◌, ap}, specs.Option.{option_and_then}, proofs.lemmas.Bool.{ne_eqb}}
use Rattle.ppdb_values.specs.Value.{value_of}
use Rattle.ppdb_verify.specs.Views.{raw_file}
use Rattle.ppdb_merge_fits.{specs.Signatures.{given_signature}, proofs.Methods.{unsigned, signed_none, signed_some}}
use Rattle.ppdb_merge_fits.proofs.signatures.given_signature.Goals as goal

pub returns-in_err-image : goal.returns-in_err-image
returns-in_err-image g c =
    c.from_residual.ensures
    ∙ sym (unsigned c.args.map.now (value_of (raw_file c.args.file.now)) c.args.row (sym c.signature.ensures ∙ c.in_err-image.was))

pub returns-then-image-eq0 : goal.returns-then-image-eq0
returns-then-image-eq0 g c =
    sym (signed_none c.args.map.now (value_of (raw_file c.args.file.now)) c.args.row
    (sym c.signature.ensures ∙ c.in_ok-image.was ∙ ap Some c.if-image-eq0.true))

pub returns-in_err-cursor : goal.returns-in_err-cursor
returns-in_err-cursor g c =
    c.from_residual-in_err-cursor.ensures ∙ sym (ap (option_and_then (given_signature c.args.map.now)) c.in_err-cursor.ensures)

pub returns : goal.returns
returns g c =
    rw c.signature-2.ensures
    (sym (signed_some c.args.map.now (value_of (raw_file c.args.file.now)) c.args.row c.in_ok-image.image c.in_ok-cursor.cursor.signature
    c.in_ok-cursor.cursor.left.items (sym c.signature.ensures ∙ c.in_ok-image.was) (ne_eqb c.in_ok-image.image 0 c.if-image-eq0.false)
    c.in_ok-cursor.ensures.0))
