use Rattle.ppdb_queries.proofs.Owned.{lists_are}
use Rattle.ppdb_queries.proofs.laws.lists_are_values.Goals as goal

pub returns : goal.returns
returns c = lists_are
