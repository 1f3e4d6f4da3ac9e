use Rattle.ppdb_merge_names_laws.proofs.Whole.{all-named}
use Rattle.ppdb_merge_names_laws.proofs.laws.references_are_named.Goals as goal

pub returns : goal.returns
returns c first m raw keeps = all-named c.lists_are_owned.ensures first m raw keeps
