use Rattle.ppdb_build_layout_laws.proofs.Laid.{all-read}
use Rattle.ppdb_build_layout_laws.proofs.laws.laid_out_files_are_read.Goals as goal

pub returns : goal.returns
returns c = all-read
