use Rattle.ppdb_merge_places_laws.proofs.References.{rising}
use Rattle.ppdb_merge_places_laws.proofs.laws.references_rise.Goals as goal

pub returns : goal.returns
returns c = rising
