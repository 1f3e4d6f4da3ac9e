use Rattle.map_compose_determined_laws.proofs.Determined.{composed_is_the_only_one}
use Rattle.map_compose_determined_laws.proofs.laws.composed_is_the_only_one.Goals as goal

pub returns : goal.returns
returns c = composed_is_the_only_one c.composed_composes.ensures c.composed_is_readable.ensures
