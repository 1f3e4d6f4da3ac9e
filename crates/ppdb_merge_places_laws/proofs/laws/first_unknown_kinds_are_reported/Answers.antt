use Rattle.ppdb_merge_places_laws.proofs.ByRow.{first_unknown_kinds}
use Rattle.ppdb_merge_places_laws.proofs.laws.first_unknown_kinds_are_reported.Goals as goal

pub returns : goal.returns
returns c = first_unknown_kinds
