use Rattle.std.proofs.Common.{Option, ap, subst, ◌∙◌}
use Rattle.ppdb_base.specs.declared.fault.BlobFault.{BlobFault}
use Rattle.type_blobs.specs.{Constants.{constants}, ConstantReading.{body_answer}}
use Rattle.blob_grammar.specs.Places.{HasEnd}
use Rattle.ppdb_verify_rules.proofs.ConstantEnds.{ends_in_body, ends_in_fault, ends_in_modifier}
use Rattle.ppdb_verify_rules.proofs.contents.constant_end.Goals as goal

pub returns-in-Some : goal.returns-in-Some
returns-in-Some c = subst (λ (f : Option BlobFault). HasEnd (constants c.args.limits) c.args.content.now f)
    (ends_in_modifier c.new-cursor.result.end c.in-Some.fault c.in-Some.ensures.fault) (c.new-cursor.result.modifiers, c.new-cursor.ensures.reading)

pub returns-in-Ok : goal.returns-in-Ok
returns-in-Ok c = subst (λ (f : Option BlobFault). HasEnd (constants c.args.limits) c.args.content.now f)
    (ends_in_body c.in-Ok.field-0 c.new-cursor.result.end (c.in-Ok.ensures ∙ ap body_answer c.fault_after.ensures.kept)) (
      c.new-cursor.result.modifiers,
      c.new-cursor.ensures.reading,
    )

pub returns-in-Err : goal.returns-in-Err
returns-in-Err c = subst (λ (f : Option BlobFault). HasEnd (constants c.args.limits) c.args.content.now f)
    (ends_in_fault c.in-Err.fault c.new-cursor.result.end (c.in-Err.ensures ∙ ap body_answer c.fault_after.ensures.kept)) (
      c.new-cursor.result.modifiers,
      c.new-cursor.ensures.reading,
    )
