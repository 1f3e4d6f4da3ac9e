use Rattle.map_compose_laws.proofs.Worked.{worked_edges}
use Rattle.map_compose_laws.proofs.laws.worked_edges.Goals as goal

pub returns : goal.returns
returns c = worked_edges c.worked_values_are_sound.ensures.small
