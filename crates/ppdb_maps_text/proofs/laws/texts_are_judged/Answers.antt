use Rattle.ppdb_maps_text.proofs.Judged.{texts_are_judged}
use Rattle.ppdb_maps_text.proofs.laws.texts_are_judged.Goals as goal

pub returns : goal.returns
returns c = texts_are_judged
