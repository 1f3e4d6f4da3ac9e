use Rattle.blob_grammar.proofs.Unique.{read-once}
use Rattle.sequence_points.specs.Records.{sequence_points}
use Rattle.sequence_points.proofs.laws.points_are_read_once.Goals as goal

pub returns : goal.returns
returns c = λ column limits blob. read-once (sequence_points column limits) blob
