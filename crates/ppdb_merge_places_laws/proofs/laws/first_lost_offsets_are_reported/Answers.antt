use Rattle.ppdb_merge_places_laws.proofs.Lost.{first_lost}
use Rattle.ppdb_merge_places_laws.proofs.laws.first_lost_offsets_are_reported.Goals as goal

pub returns : goal.returns
returns c = first_lost
