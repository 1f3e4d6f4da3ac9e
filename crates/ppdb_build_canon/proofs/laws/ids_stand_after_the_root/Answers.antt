use Rattle.ppdb_build_canon.proofs.Ids.{ids_placed}
use Rattle.ppdb_build_canon.proofs.laws.ids_stand_after_the_root.Goals as goal

pub returns : goal.returns
returns c = ids_placed
