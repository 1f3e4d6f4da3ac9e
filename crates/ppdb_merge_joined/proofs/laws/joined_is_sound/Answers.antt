use Rattle.ppdb_merge_joined.proofs.Sound.{whole_sound}
use Rattle.ppdb_merge_joined.proofs.laws.joined_is_sound.Goals as goal

pub returns : goal.returns
returns c = whole_sound
