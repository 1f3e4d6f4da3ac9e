use Rattle.ppdb_heaps.proofs.WrittenNames.{written_name, written_text, written_indexes}
use Rattle.ppdb_heaps.proofs.laws.written_names_are_read.Goals as goal

pub returns-clause-whole : goal.returns-clause-whole
returns-clause-whole c = written_name

pub returns-clause-name : goal.returns-clause-name
returns-clause-name c = written_text

pub returns-clause-indexes : goal.returns-clause-indexes
returns-clause-indexes c = written_indexes
