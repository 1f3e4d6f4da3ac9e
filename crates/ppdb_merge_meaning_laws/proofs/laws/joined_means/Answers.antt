use Rattle.ppdb_merge_meaning_laws.proofs.Joins.{joined_means}
use Rattle.ppdb_merge_meaning_laws.proofs.laws.joined_means.Goals as goal

pub returns : goal.returns
returns c = joined_means
