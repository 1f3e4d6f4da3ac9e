use Rattle.ppdb_merge_records_laws.proofs.Records.{joined_records_are_flat}
use Rattle.ppdb_merge_records_laws.proofs.laws.joined_records_are_flat.Goals as goal

pub returns : goal.returns
returns c = joined_records_are_flat c.codes_are_parents.ensures
