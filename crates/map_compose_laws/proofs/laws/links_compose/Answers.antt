use Rattle.map_compose_laws.proofs.Links.{links_compose}
use Rattle.map_compose_laws.proofs.laws.links_compose.Goals as goal

pub returns : goal.returns
returns c = links_compose
