use Rattle.map_compose.proofs.Worked.{worked_maps}
use Rattle.map_compose.proofs.laws.worked_maps.Goals as goal

pub returns : goal.returns
returns c = worked_maps
