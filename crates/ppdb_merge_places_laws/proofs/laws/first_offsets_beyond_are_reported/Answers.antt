use Rattle.ppdb_merge_places_laws.proofs.Beyond.{first_beyond}
use Rattle.ppdb_merge_places_laws.proofs.laws.first_offsets_beyond_are_reported.Goals as goal

pub returns : goal.returns
returns c = first_beyond
