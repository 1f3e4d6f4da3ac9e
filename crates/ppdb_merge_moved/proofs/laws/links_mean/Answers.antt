use Rattle.ppdb_merge_moved.proofs.Links.{links_mean}
use Rattle.ppdb_merge_moved.proofs.laws.links_mean.Goals as goal

pub returns : goal.returns
returns c = links_mean
