use Rattle.ppdb_build_heaps.proofs.Stays.{drafts}
use Rattle.ppdb_build_heaps.proofs.laws.drafts_are_interned.Goals as goal

pub returns : goal.returns
returns c = drafts
