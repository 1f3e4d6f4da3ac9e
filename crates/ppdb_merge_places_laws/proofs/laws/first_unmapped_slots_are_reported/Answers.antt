use Rattle.ppdb_merge_places_laws.proofs.ByRow.{first_unmapped_slots}
use Rattle.ppdb_merge_places_laws.proofs.laws.first_unmapped_slots_are_reported.Goals as goal

pub returns : goal.returns
returns c = first_unmapped_slots
