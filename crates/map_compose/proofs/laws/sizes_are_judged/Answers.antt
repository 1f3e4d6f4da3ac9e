use Rattle.map_compose.proofs.Differing.{sizes_are_judged}
use Rattle.map_compose.proofs.laws.sizes_are_judged.Goals as goal

pub returns : goal.returns
returns c = sizes_are_judged
