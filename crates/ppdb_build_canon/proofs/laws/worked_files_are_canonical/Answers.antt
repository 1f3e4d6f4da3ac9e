use Rattle.ppdb_build_canon.proofs.Worked.{empty_is, small_is, program_is, bytes_are, small_limit, program_limit, offset_limit, step_limit}
use Rattle.ppdb_build_canon.proofs.laws.worked_files_are_canonical.Goals as goal

pub returns : goal.returns
returns c = let bytes = bytes_are c.worked_files_are_laid_out.ensures in record {
  empty = empty_is;
  small = small_is;
  program = program_is;
  empty_bytes = bytes.0;
  small_bytes = bytes.1;
  program_bytes = bytes.2;
  small_limit = small_limit;
  program_limit = program_limit;
  offset_limit = offset_limit;
  step_limit = step_limit;
}
