use Rattle.ppdb_build_heaps.proofs.Stays.{uses-there}
use Rattle.ppdb_build_heaps.proofs.laws.all_uses_are_there.Goals as goal

pub returns : goal.returns
returns c = uses-there
