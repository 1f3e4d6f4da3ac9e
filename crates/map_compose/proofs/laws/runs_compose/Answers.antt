use Rattle.map_compose.proofs.Meeting.{runs_compose}
use Rattle.map_compose.proofs.laws.runs_compose.Goals as goal

pub returns : goal.returns
returns c = runs_compose
