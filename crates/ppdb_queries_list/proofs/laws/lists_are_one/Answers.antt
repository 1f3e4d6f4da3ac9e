use Rattle.ppdb_queries_list.proofs.Lists.{no_list, one_list, one_other}
use Rattle.ppdb_queries_list.proofs.laws.lists_are_one.Goals as goal

pub returns-clause-list : goal.returns-clause-list
returns-clause-list c = one_list

pub returns-clause-other : goal.returns-clause-other
returns-clause-other c = one_other

pub returns-clause-apart : goal.returns-clause-apart
returns-clause-apart c = no_list
