use Rattle.ppdb_heaps.proofs.Heaps.{blob-begins}
use Rattle.ppdb_heaps.proofs.laws.blob_law.Goals as goal

pub returns : goal.returns
returns c = blob-begins
