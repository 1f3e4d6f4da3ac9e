use Rattle.ppdb_queries.proofs.Owned.{views_there}
use Rattle.ppdb_queries.proofs.laws.views_are_there.Goals as goal

pub returns : goal.returns
returns c = views_there
