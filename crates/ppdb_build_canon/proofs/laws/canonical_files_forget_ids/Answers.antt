use Rattle.ppdb_build_canon.proofs.Ids.{ids_forgotten}
use Rattle.ppdb_build_canon.proofs.laws.canonical_files_forget_ids.Goals as goal

pub returns : goal.returns
returns c = ids_forgotten
