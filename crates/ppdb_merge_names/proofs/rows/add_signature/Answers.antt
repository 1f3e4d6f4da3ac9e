use Rattle.std.proofs.Common.{sym, ◌∙◌}
use Rattle.ppdb_merge_names.{specs.References.{of_signature}, proofs.Going.{goes-none}, proofs.RowNames.{signature_none, signature_cut, signature_gone}}
use Rattle.ppdb_merge_names.proofs.rows.add_signature.Goals as goal

pub returns-then-signature-eq0 : goal.returns-then-signature-eq0
returns-then-signature-eq0 c =
    let s = c.args.imager.now in
    goes-none s (of_signature s.map c.args.row c.args.signature) (signature_none s.map c.args.row c.args.signature c.if-signature-eq0.true)

pub returns-then-is_gone : goal.returns-then-is_gone
returns-then-is_gone c =
    let s = c.args.imager.now in
    rw c.is_gone.ensures.same
    (goes-none s (of_signature s.map c.args.row c.args.signature)
    (signature_gone s.map c.args.row c.args.signature (sym c.is_gone.ensures.gone ∙ c.if-is_gone.true)))

pub returns-then-signs : goal.returns-then-signs
returns-then-signs c =
    let s = c.args.imager.now in
    goes-none s (of_signature s.map c.args.row c.args.signature)
    (signature_cut s.map c.args.row c.args.signature (sym c.signs.ensures ∙ c.if-signs.true))
