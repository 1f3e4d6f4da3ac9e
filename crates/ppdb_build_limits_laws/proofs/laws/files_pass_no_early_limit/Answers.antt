use Rattle.ppdb_build_limits_laws.proofs.Unlimited.{files_pass}
use Rattle.ppdb_build_limits_laws.proofs.laws.files_pass_no_early_limit.Goals as goal

pub returns : goal.returns
returns c = files_pass
