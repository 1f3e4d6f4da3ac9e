use Rattle.sequence_points.proofs.Reread.{written_points}
use Rattle.sequence_points.proofs.laws.written_points_are_read.Goals as goal

pub returns : goal.returns
returns c = λ signature points limits can steps signature_there there. written_points signature points limits can steps signature_there there
