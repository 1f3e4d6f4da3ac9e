use Rattle.ppdb_build_scopes_laws.proofs.Reread.{canonical_scopes}
use Rattle.ppdb_build_scopes_laws.proofs.laws.canonical_scopes_are_reread.Goals as goal

pub returns : goal.returns
returns c = canonical_scopes c.values_without_limits_are_small.ensures
