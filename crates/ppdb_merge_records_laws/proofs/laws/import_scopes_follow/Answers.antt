use Rattle.ppdb_merge_records_laws.proofs.Imports.{import_scopes_follow}
use Rattle.ppdb_merge_records_laws.proofs.laws.import_scopes_follow.Goals as goal

pub returns : goal.returns
returns c = import_scopes_follow
