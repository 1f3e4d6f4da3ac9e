use Rattle.ppdb_merge_moved.proofs.SoundMoves.{moved_names}
use Rattle.ppdb_merge_moved.proofs.laws.moved_names_images.Goals as goal

pub returns : goal.returns
returns c = moved_names
