use Rattle.map_compose_laws.proofs.Edges.{edges_compose}
use Rattle.map_compose_laws.proofs.laws.edges_compose.Goals as goal

pub returns : goal.returns
returns c = edges_compose
