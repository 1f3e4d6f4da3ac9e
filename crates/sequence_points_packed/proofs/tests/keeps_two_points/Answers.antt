use Rattle.sequence_points.proofs.Writable.{two_points}
use Rattle.sequence_points_packed.proofs.tests.keeps_two_points.Goals as goal

pub kept-requires : goal.kept-requires
kept-requires g c = λ small. rw (c.on_line.ensures, c.on_line-2.ensures) two_points
