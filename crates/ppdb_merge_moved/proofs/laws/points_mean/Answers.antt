use Rattle.ppdb_merge_moved.proofs.PointMeanings.{points_mean}
use Rattle.ppdb_merge_moved.proofs.laws.points_mean.Goals as goal

pub returns : goal.returns
returns c = points_mean
