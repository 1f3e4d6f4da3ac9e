use Rattle.blob_grammar.proofs.Stored.{unsigned-stands, unsigned-refused, refusal}
use Rattle.blob_grammar.proofs.numbers.unsigned_field.Goals as goal

pub returns-in-Ok-clause-found : goal.returns-in-Ok-clause-found
returns-in-Ok-clause-found c = rw (unsigned-stands c.args.blob.now c.args.at c.in-Ok.found.0 c.in-Ok.found.1 c.in-Ok.ensures.found)

pub returns-in-Err-clause-found : goal.returns-in-Err-clause-found
returns-in-Err-clause-found c =
    rw (
      unsigned-refused c.args.blob.now c.args.at c.in-Err.fault (refusal c.args.blob.now c.args.at c.in-Err.fault c.in-Err.ensures.form c.in-Err.ensures.end),
      c.fault_at.ensures,
    )
