use Rattle.ppdb_maps.proofs.Readable.{maps_are_readable}
use Rattle.ppdb_maps.proofs.laws.maps_are_readable.Goals as goal

pub returns : goal.returns
returns c = maps_are_readable
