use Rattle.ppdb_merge_meaning_laws.proofs.Keeping.{inputs_keep_meaning}
use Rattle.ppdb_merge_meaning_laws.proofs.laws.inputs_keep_meaning.Goals as goal

pub returns : goal.returns
returns c = inputs_keep_meaning c.soundness_is_annotated.ensures
