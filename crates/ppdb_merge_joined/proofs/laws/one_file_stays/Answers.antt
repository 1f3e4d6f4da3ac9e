use Rattle.ppdb_merge_joined.proofs.One.{one_stays}
use Rattle.ppdb_merge_joined.proofs.laws.one_file_stays.Goals as goal

pub returns : goal.returns
returns c = one_stays
