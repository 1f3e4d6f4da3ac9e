use Rattle.ppdb_build_heaps.proofs.Stays.{items-stay}
use Rattle.ppdb_build_heaps.proofs.laws.items_stay.Goals as goal

pub returns : goal.returns
returns c = items-stay
