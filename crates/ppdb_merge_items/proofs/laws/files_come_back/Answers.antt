use Rattle.ppdb_merge_items.proofs.Files.{file_back}
use Rattle.ppdb_merge_items.proofs.laws.files_come_back.Goals as goal

pub returns : goal.returns
returns c = file_back
