-- The bytes of three worked files.
use Rattle.std.specs.Prelude.{◌≡◌}
use Rattle.ppdb_values.specs.WorkedBytes.{stored_empty, stored_small, stored_program}
use Rattle.ppdb_values.specs.{WorkedProgram.program_file, WorkedSmall.{empty_file, small_file}}
use Rattle.ppdb_build_layout.specs.Bytes.{file_bytes}

-- The worked files of ppdb_values are laid out as these bytes.
pub record WorkedFilesAreLaidOut : Type 0 where
  pub empty : file_bytes empty_file ≡ stored_empty
  pub small : file_bytes small_file ≡ stored_small
  pub program : file_bytes program_file ≡ stored_program
