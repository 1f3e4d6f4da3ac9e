use Rattle.map_compose_laws.proofs.Steps.{two_steps_mean}
use Rattle.map_compose_laws.proofs.laws.two_steps_mean.Goals as goal

pub returns : goal.returns
returns c =
    two_steps_mean c.soundness_is_annotated.ensures c.meanings_are_annotated.ensures.offsets c.inputs_keep_meaning.ensures c.inputs_keep_origins.ensures
