use Rattle.blob_grammar.proofs.Ending.{blob_end-inside, blob_end-nothing}
use Rattle.blob_grammar.proofs.laws.blob_end_law.Goals as goal

pub returns-clause-inside : goal.returns-clause-inside
returns-clause-inside c = blob_end-inside

pub returns-clause-nothing : goal.returns-clause-nothing
returns-clause-nothing c = blob_end-nothing
