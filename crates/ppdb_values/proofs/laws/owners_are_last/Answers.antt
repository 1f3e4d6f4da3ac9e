use Rattle.ppdb_values.proofs.Owners.{owner_is_last, owner_is_found}
use Rattle.ppdb_values.proofs.laws.owners_are_last.Goals as goal

pub returns : goal.returns
returns c = record { is_last = owner_is_last; is_found = owner_is_found }
