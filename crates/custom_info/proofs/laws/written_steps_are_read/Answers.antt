use Rattle.custom_info.proofs.WrittenSteps.{written_steps}
use Rattle.custom_info.proofs.laws.written_steps_are_read.Goals as goal

pub returns : goal.returns
returns c = λ methods handler steps h a b. written_steps methods handler steps h a b
