use Rattle.ppdb_maps_laws.proofs.Searched.{offsets_are_moved}
use Rattle.ppdb_maps_laws.proofs.laws.offsets_are_moved.Goals as goal

pub returns : goal.returns
returns c = offsets_are_moved
