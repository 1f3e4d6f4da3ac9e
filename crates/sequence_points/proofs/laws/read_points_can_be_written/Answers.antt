use Rattle.sequence_points.proofs.ReadPoints.{read_points}
use Rattle.sequence_points.proofs.laws.read_points_can_be_written.Goals as goal

pub returns : goal.returns
returns c = λ column limits blob signature points there documents signatures r. read_points column limits blob signature points there documents signatures r
