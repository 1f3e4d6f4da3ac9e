use Rattle.ppdb_heaps.proofs.Whole.{name_indexes-are}
use Rattle.ppdb_heaps.proofs.laws.name_indexes_are.Goals as goal

pub returns : goal.returns
returns c = name_indexes-are
