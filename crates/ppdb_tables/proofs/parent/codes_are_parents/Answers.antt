use Rattle.ppdb_tables.proofs.ParentCodes.{coded_parent, parent_coded}
use Rattle.ppdb_tables.proofs.parent.codes_are_parents.Goals as goal

pub returns : goal.returns
returns c = record { coded = coded_parent; parent = parent_coded }
