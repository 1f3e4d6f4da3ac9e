use Rattle.ppdb_values.proofs.Worked.{empty_is, small_is, program_is}
use Rattle.ppdb_values.proofs.laws.worked_values.Goals as goal

pub returns : goal.returns
returns c = record { empty = empty_is; small = small_is; program = program_is }
