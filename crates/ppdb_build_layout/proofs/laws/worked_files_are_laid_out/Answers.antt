use Rattle.std.proofs.Common.{refl}
use Rattle.ppdb_build_layout.specs.Bytes.{file_bytes, prefix_bytes, pdb_stream, tables_stream, all_rows}
use Rattle.ppdb_build_layout.proofs.laws.worked_files_are_laid_out.Goals as goal

pub returns : goal.returns
unfolding file_bytes prefix_bytes pdb_stream tables_stream all_rows
returns c = record { empty = refl; small = refl; program = refl }
