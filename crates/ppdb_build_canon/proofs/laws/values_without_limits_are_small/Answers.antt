use Rattle.ppdb_build_canon.proofs.Limits.{values_within}
use Rattle.ppdb_build_canon.proofs.laws.values_without_limits_are_small.Goals as goal

pub returns : goal.returns
returns c = values_within
