use Rattle.ppdb_build_written_laws.proofs.Canonical.{same_files}
use Rattle.ppdb_build_written_laws.proofs.laws.written_files_are_canonical.Goals as goal

pub returns : goal.returns
returns c =
    same_files c.canonical_rows_are_reread.ensures c.laid_out_files_are_read.ensures c.canonical_files_forget_ids.ensures c.ids_stand_after_the_root.ensures
