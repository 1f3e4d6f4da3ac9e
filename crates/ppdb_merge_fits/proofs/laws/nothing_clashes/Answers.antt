use Rattle.ppdb_merge_fits.proofs.Nothing.{nothing_clashes}
use Rattle.ppdb_merge_fits.proofs.laws.nothing_clashes.Goals as goal

pub returns : goal.returns
returns c = nothing_clashes c.codes_are_parents.ensures c.lists_are_owned.ensures
