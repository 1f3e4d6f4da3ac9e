use Rattle.std.proofs.Common.{refl}
use Rattle.ppdb_merge_joined.proofs.laws.worked_joins.Goals as goal

pub returns : goal.returns
returns c = record { records = refl; scopes = refl }
