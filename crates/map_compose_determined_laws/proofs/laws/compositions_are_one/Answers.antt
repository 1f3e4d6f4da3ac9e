use Rattle.map_compose_determined_laws.proofs.Determined.{compositions_are_one}
use Rattle.map_compose_determined_laws.proofs.laws.compositions_are_one.Goals as goal

pub returns : goal.returns
returns c = compositions_are_one
