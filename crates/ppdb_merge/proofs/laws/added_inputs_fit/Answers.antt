use Rattle.ppdb_merge.proofs.Turns.{are_inputs}
use Rattle.ppdb_merge.proofs.laws.added_inputs_fit.Goals as goal

pub returns : goal.returns
returns c = are_inputs c.values_are_sound.ensures c.soundness_is_annotated.ensures c.references_are_named.ensures c.nothing_clashes.ensures
