use Rattle.ppdb_merge_moved.proofs.SoundMoves.{moved_sound}
use Rattle.ppdb_merge_moved.proofs.laws.moved_is_sound.Goals as goal

pub returns : goal.returns
returns c = moved_sound
