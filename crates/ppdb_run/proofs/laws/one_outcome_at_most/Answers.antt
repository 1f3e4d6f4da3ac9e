use Rattle.ppdb_run.proofs.Outcomes.{one_outcome}
use Rattle.ppdb_run.proofs.laws.one_outcome_at_most.Goals as goal

pub returns : goal.returns
returns c = one_outcome
