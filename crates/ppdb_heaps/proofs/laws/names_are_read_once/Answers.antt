use Rattle.blob_grammar.proofs.Unique.{read-once}
use Rattle.ppdb_heaps.specs.Names.{names}
use Rattle.ppdb_heaps.proofs.laws.names_are_read_once.Goals as goal

pub returns : goal.returns
returns c blobs blob = read-once (names blobs) blob
