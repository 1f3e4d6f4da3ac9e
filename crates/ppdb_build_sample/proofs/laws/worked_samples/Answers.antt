use Rattle.ppdb_build_sample.proofs.Worked.{worked_samples}
use Rattle.ppdb_build_sample.proofs.laws.worked_samples.Goals as goal

pub returns : goal.returns
returns c = worked_samples
