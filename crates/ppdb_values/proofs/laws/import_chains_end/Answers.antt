use Rattle.ppdb_tables.specs.declared.rows.ImportRow.{ImportRow}
use Rattle.ppdb_values.proofs.ChainEnds.{chains_end}
use Rattle.ppdb_values.proofs.laws.import_chains_end.Goals as goal

pub returns : goal.returns
returns c = λ imports. chains_end (λ (import : ImportRow). import.parent) imports
