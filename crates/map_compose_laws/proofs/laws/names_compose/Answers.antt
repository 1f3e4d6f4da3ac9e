use Rattle.map_compose_laws.proofs.Renamed.{names_compose}
use Rattle.map_compose_laws.proofs.laws.names_compose.Goals as goal

pub returns : goal.returns
returns c = names_compose
