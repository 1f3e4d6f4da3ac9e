use Rattle.ppdb_merge_moved.proofs.Means.{files_mean}
use Rattle.ppdb_merge_moved.proofs.laws.files_mean.Goals as goal

pub returns : goal.returns
returns c = files_mean
