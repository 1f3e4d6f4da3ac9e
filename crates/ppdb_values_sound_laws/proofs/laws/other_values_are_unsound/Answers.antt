use Rattle.ppdb_values_sound_laws.proofs.WorkedUnsound.{unsound}
use Rattle.ppdb_values_sound_laws.proofs.laws.other_values_are_unsound.Goals as goal

pub returns : goal.returns
returns c = unsound
