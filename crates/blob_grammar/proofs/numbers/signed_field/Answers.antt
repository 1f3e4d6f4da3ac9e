use Rattle.blob_grammar.proofs.Stored.{signed-stands, signed-refused, refusal}
use Rattle.blob_grammar.proofs.numbers.signed_field.Goals as goal

pub returns-in-Ok-clause-found : goal.returns-in-Ok-clause-found
returns-in-Ok-clause-found c = rw (signed-stands c.args.blob.now c.args.at c.in-Ok.found.0 c.in-Ok.found.1 c.in-Ok.ensures.found)

pub returns-in-Err-clause-found : goal.returns-in-Err-clause-found
returns-in-Err-clause-found c =
    rw (
      signed-refused c.args.blob.now c.args.at c.in-Err.fault (refusal c.args.blob.now c.args.at c.in-Err.fault c.in-Err.ensures.form c.in-Err.ensures.end),
      c.fault_at.ensures,
    )
