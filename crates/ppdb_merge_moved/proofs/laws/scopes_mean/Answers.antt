use Rattle.ppdb_merge_moved.proofs.Meanings.{scopes_mean}
use Rattle.ppdb_merge_moved.proofs.laws.scopes_mean.Goals as goal

pub returns : goal.returns
returns c = scopes_mean
