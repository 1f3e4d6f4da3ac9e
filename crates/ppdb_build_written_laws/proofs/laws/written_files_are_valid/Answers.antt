use Rattle.ppdb_build_written_laws.proofs.Canonical.{valid_files}
use Rattle.ppdb_build_written_laws.proofs.laws.written_files_are_valid.Goals as goal

pub returns : goal.returns
returns c =
    valid_files c.canonical_rows_are_reread.ensures c.laid_out_files_are_read.ensures c.canonical_files_forget_ids.ensures c.kept_rules_accept.ensures
    c.heap_uses_are_few.ensures c.values_without_limits_are_small.ensures
