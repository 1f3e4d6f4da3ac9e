use Rattle.ppdb_merge_places_laws.proofs.Unmapped.{first_references}
use Rattle.ppdb_merge_places_laws.proofs.laws.first_references_are_reported.Goals as goal

pub returns : goal.returns
returns c = first_references
