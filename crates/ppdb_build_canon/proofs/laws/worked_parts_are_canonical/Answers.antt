use Rattle.ppdb_build_canon.proofs.WorkedParts.{names_are, points_are, lists_are}
use Rattle.ppdb_build_canon.proofs.laws.worked_parts_are_canonical.Goals as goal

pub returns-clause-names : goal.returns-clause-names
returns-clause-names c = names_are

pub returns-clause-points : goal.returns-clause-points
returns-clause-points c = points_are

pub returns-clause-lists : goal.returns-clause-lists
returns-clause-lists c = lists_are
