use Rattle.ppdb_merge_meaning_laws.proofs.Alone.{moved_alone_is_sound}
use Rattle.ppdb_merge_meaning_laws.proofs.laws.moved_alone_is_sound.Goals as goal

pub returns : goal.returns
returns c = moved_alone_is_sound c.soundness_is_annotated.ensures c.joined_is_sound.ensures
