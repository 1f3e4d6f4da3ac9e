use Rattle.ppdb_run.proofs.Keeping.{inputs_valid}
use Rattle.ppdb_run.proofs.meaning_laws.read_inputs_are_valid.Goals as goal

pub returns : goal.returns
returns c = inputs_valid c.maps_are_readable.ensures
