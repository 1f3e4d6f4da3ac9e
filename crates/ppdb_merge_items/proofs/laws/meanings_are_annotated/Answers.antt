use Rattle.ppdb_merge_items.proofs.AnnotatedMeanings.{meaning_is, links_are}
use Rattle.ppdb_merge_items.proofs.laws.meanings_are_annotated.Goals as goal

pub returns : goal.returns
returns c = record { offsets = meaning_is; methods = links_are }
