use Rattle.std.proofs.Common.{refl}
use Rattle.tests_maps.proofs.moving.moved_by.Goals as goal

pub moved_points_into-answer-requires-clause-below : goal.moved_points_into-answer-requires-clause-below
moved_points_into-answer-requires-clause-below c = λ signature points reads i d less.
    (c.if-not-are_movable.ensures.points refl signature points reads i d less).below

pub moved_points_into-answer-requires-clause-images : goal.moved_points_into-answer-requires-clause-images
moved_points_into-answer-requires-clause-images c = λ signature points reads i d less.
    (c.if-not-are_movable.ensures.points refl signature points reads i d less).image
