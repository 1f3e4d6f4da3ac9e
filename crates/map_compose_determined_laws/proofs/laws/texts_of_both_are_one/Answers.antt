use Rattle.map_compose_determined_laws.proofs.Determined.{texts_of_both_are_one}
use Rattle.map_compose_determined_laws.proofs.laws.texts_of_both_are_one.Goals as goal

pub returns : goal.returns
returns c = texts_of_both_are_one
