use Rattle.ppdb_merge_meaning_laws.proofs.Origins.{inputs_keep_origins}
use Rattle.ppdb_merge_meaning_laws.proofs.laws.inputs_keep_origins.Goals as goal

pub returns : goal.returns
returns c = inputs_keep_origins c.soundness_is_annotated.ensures
