use Rattle.ppdb_build_heaps.proofs.Stands.{written-read}
use Rattle.ppdb_build_heaps.proofs.laws.written_items_are_read.Goals as goal

pub returns : goal.returns
returns c = written-read
