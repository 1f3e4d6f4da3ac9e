use Rattle.ppdb_maps.proofs.OneMap.{texts_have_one_map}
use Rattle.ppdb_maps.proofs.laws.texts_have_one_map.Goals as goal

pub returns : goal.returns
returns c = texts_have_one_map
