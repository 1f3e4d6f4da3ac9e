use Rattle.ppdb_merge_joined.proofs.Whole.{small_of}
use Rattle.ppdb_merge_joined.proofs.joining.joined_value.Goals as goal

pub value_of-requires : goal.value_of-requires
value_of-requires c = small_of c.args.files c.in_ok-file.file c.requires.some c.requires.room c.in_ok-file.ensures
