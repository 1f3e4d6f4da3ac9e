use Rattle.ppdb_build_scopes_laws.proofs.Reread.{canonical_customs}
use Rattle.ppdb_build_scopes_laws.proofs.laws.canonical_customs_are_reread.Goals as goal

pub returns : goal.returns
returns c = canonical_customs c.codes_are_parents.ensures c.values_without_limits_are_small.ensures
