use Rattle.ppdb_run.proofs.NoClash.{fitting_maps_do_not_clash}
use Rattle.ppdb_run.proofs.sample_laws.fitting_maps_do_not_clash.Goals as goal

pub returns : goal.returns
returns c = fitting_maps_do_not_clash c.codes_are_parents.ensures c.lists_are_owned.ensures
