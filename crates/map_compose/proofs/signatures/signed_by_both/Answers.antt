use Rattle.std.{proofs.Common.{sym, ap, ◌∙◌}, specs.Prelude.{is_some}}
use Rattle.map_compose.{specs.declared.part.Part.TheVariants.{Signatures}, specs.Parts.{all_numbers}, proofs.Signed.{signed_lines, none_signed, some_signed}}
use Rattle.map_compose.proofs.Signed.{none_made, empty_list}
use Rattle.map_compose.proofs.signatures.signed_by_both.Goals as goal

pub returns-then-is_none-2 : goal.returns-then-is_none-2
returns-then-is_none-2 c =
    sym (none_signed c.args.first.now c.args.second.now c.facts.ensures c.facts-2.ensures
    (none_made c.args.first.now c.args.second.now
    (empty_list _ c.args.first.now.signatures (sym (ap is_some c.signature_line.ensures) ∙ c.if-is_none.ensures))
    (empty_list _ c.args.second.now.signatures (sym (ap is_some c.signature_line-then-is_none.ensures) ∙ c.if-is_none-2.ensures))
    (all_numbers Signatures c.args.first.now c.args.second.now)))

pub returns-then-is_some : goal.returns-then-is_some
returns-then-is_some c =
    sym (some_signed c.args.first.now c.args.second.now c.facts.ensures c.facts-2.ensures _ _ c.in-Some.method c.methods.invariant c.in-Some.ensures
    (sym (c.if-is_some.ensures ∙ ap is_some c.signature_by_both.ensures)))

pub returns : goal.returns
returns c =
    sym (none_signed c.args.first.now c.args.second.now c.facts.ensures c.facts-2.ensures
    (c.methods.invariant ∙ ap (signed_lines c.args.first.now c.args.second.now) c.in_default.ensures))
