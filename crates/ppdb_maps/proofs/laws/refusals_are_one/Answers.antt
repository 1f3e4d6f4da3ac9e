use Rattle.ppdb_maps.proofs.Refusals.{refusals_are_one}
use Rattle.ppdb_maps.proofs.laws.refusals_are_one.Goals as goal

pub returns : goal.returns
returns c = refusals_are_one
