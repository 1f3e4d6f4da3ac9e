use Rattle.map_compose.proofs.Equations.{composed_composes}
use Rattle.map_compose.proofs.laws.composed_composes.Goals as goal

pub returns : goal.returns
returns c = composed_composes
