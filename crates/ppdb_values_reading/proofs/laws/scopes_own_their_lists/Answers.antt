use Rattle.ppdb_values_reading.proofs.Shared.{own_their_lists}
use Rattle.ppdb_values_reading.proofs.laws.scopes_own_their_lists.Goals as goal

pub returns : goal.returns
returns c raw keeps = own_their_lists raw c.lists_are_owned.ensures keeps
