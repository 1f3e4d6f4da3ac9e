use Rattle.ppdb_merge_moved.proofs.Slots.{slots_mean}
use Rattle.ppdb_merge_moved.proofs.laws.slots_mean.Goals as goal

pub returns : goal.returns
returns c = slots_mean
