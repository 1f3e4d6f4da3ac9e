use Rattle.custom_info.proofs.ReadSteps.{read_steps}
use Rattle.custom_info.proofs.laws.read_steps_can_be_written.Goals as goal

pub returns : goal.returns
returns c = λ methods blob handler steps fault r. read_steps methods blob handler steps fault r
