use Rattle.ppdb_build_total_laws.proofs.Totals.{heap_uses_few}
use Rattle.ppdb_build_total_laws.proofs.laws.heap_uses_are_few.Goals as goal

pub returns : goal.returns
returns c = heap_uses_few
