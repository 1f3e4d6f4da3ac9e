use Rattle.ppdb_run.proofs.Keeping.{kinds_known}
use Rattle.ppdb_run.proofs.meaning_laws.joined_kinds_are_known.Goals as goal

pub returns : goal.returns
returns c = kinds_known c.values_are_sound.ensures c.soundness_is_annotated.ensures c.references_are_named.ensures c.nothing_clashes.ensures
