use Rattle.source_link.proofs.Best.{choice_is_best}
use Rattle.source_link.proofs.laws.choice_is_best.Goals as goal

pub returns : goal.returns
returns c = choice_is_best
