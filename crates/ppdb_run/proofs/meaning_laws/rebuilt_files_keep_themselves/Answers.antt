use Rattle.ppdb_run.proofs.Keeping.{rebuilt_keep}
use Rattle.ppdb_run.proofs.meaning_laws.rebuilt_files_keep_themselves.Goals as goal

pub returns : goal.returns
returns c = rebuilt_keep c.values_are_sound.ensures c.sound_files_stay.ensures c.inputs_keep_meaning.ensures c.inputs_keep_origins.ensures
