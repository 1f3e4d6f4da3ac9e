use Rattle.ppdb_values.proofs.Worked.{small_means, small_links_are, program_means, program_links_are}
use Rattle.ppdb_values.proofs.laws.worked_meaning.Goals as goal

pub returns : goal.returns
returns c = record { small = small_means; small_method = small_links_are; program = program_means; program_method = program_links_are }
