use Rattle.ppdb_values.proofs.Kept.{program_kept}
use Rattle.ppdb_values.proofs.laws.worked_file_keeps_rules.Goals as goal

pub returns : goal.returns
returns c = program_kept
