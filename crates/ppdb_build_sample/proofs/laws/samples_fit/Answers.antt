use Rattle.ppdb_build_sample.proofs.Fitting.{samples_fit}
use Rattle.ppdb_build_sample.proofs.laws.samples_fit.Goals as goal

pub returns : goal.returns
returns c = samples_fit c.soundness_is_annotated.ensures c.worked_values_are_sound.ensures.empty
