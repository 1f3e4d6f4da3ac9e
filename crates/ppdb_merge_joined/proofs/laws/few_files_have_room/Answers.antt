use Rattle.ppdb_merge_joined.proofs.Room.{few_have_room}
use Rattle.ppdb_merge_joined.proofs.laws.few_files_have_room.Goals as goal

pub returns : goal.returns
returns c = few_have_room
