use Rattle.sequence_points.proofs.ReadPoints.{points_in_range}
use Rattle.sequence_points.proofs.laws.read_points_are_in_range.Goals as goal

pub returns : goal.returns
returns c = λ column limits blob signature points there r. points_in_range column limits blob signature points there r
