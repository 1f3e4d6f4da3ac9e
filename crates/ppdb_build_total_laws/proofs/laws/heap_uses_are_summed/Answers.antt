use Rattle.ppdb_build_total_laws.proofs.Totals.{heap_uses_summed}
use Rattle.ppdb_build_total_laws.proofs.laws.heap_uses_are_summed.Goals as goal

pub returns : goal.returns
returns c = heap_uses_summed
