use Rattle.sequence_points_moved.proofs.Kept.{to_the_end}
use Rattle.sequence_points_moved.proofs.laws.kept_to_the_end.Goals as goal

pub returns : goal.returns
returns c = to_the_end
