use Rattle.ppdb_run.proofs.Keeping.{joined_keep}
use Rattle.ppdb_run.proofs.meaning_laws.joined_files_keep_inputs.Goals as goal

pub returns : goal.returns
returns c = joined_keep c.added_inputs_fit.ensures c.inputs_keep_meaning.ensures c.inputs_keep_origins.ensures
