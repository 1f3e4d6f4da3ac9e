use Rattle.ppdb_merge_parts.proofs.Flat.{joined_parts_are_flat}
use Rattle.ppdb_merge_parts.proofs.laws.joined_parts_are_flat.Goals as goal

pub returns : goal.returns
returns c = joined_parts_are_flat
