use Rattle.ppdb_build_heaps.proofs.FirstUses.{heaps-are}
use Rattle.ppdb_build_heaps.proofs.laws.heaps_are_first_uses.Goals as goal

pub returns : goal.returns
returns c = heaps-are
