-- What the bytes of three worked files are read as (ECMA-335 II.24.2; Portable PDB v1.0).
use Rattle.ppdb_values.specs.WorkedBytes.{stored_empty, stored_small, stored_program}
use Rattle.ppdb_values.specs.{WorkedProgram.program_file, WorkedSmall.{empty_file, small_file}}
use Rattle.ppdb_verify.specs.Files.{IsRawOf}

-- The worked files of ppdb_values are what these bytes are read as.
pub record WorkedBytes : Type 0 where
  pub empty : IsRawOf stored_empty empty_file
  pub small : IsRawOf stored_small small_file
  pub program : IsRawOf stored_program program_file
