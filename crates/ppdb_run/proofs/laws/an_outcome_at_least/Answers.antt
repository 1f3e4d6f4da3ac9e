use Rattle.ppdb_run.proofs.Total.{has_due}
use Rattle.ppdb_run.proofs.laws.an_outcome_at_least.Goals as goal

pub returns : goal.returns
returns c = has_due
