use Rattle.sequence_points.proofs.MovedPoints.{moved-rise, worked}
use Rattle.sequence_points.proofs.moved.points_move_in_order.Goals as goal

pub returns-clause-rise : goal.returns-clause-rise
returns-clause-rise c = moved-rise

pub returns-clause-worked : goal.returns-clause-worked
returns-clause-worked c = worked
