use Rattle.ppdb_verify.proofs.Bytes.{empty_read, small_read, program_read}
use Rattle.ppdb_verify.proofs.laws.worked_bytes_are_read.Goals as goal

pub returns : goal.returns
returns c = record { empty = empty_read; small = small_read; program = program_read }
