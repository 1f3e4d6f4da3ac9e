use Rattle.std.proofs.Common.{[], sym, ◌∙◌}
use Rattle.sequence_points.{specs.Written.{large_steps}, proofs.Follows.{each_follows, few_points, no_first}}
use Rattle.sequence_points.proofs.writer.points_into.Goals as goal

pub first_large_step-requires : goal.first_large_step-requires
first_large_step-requires c = few_points c.args.points.now c.requires.offsets c.requires.rise

pub blob_into-requires-clause-follow : goal.blob_into-requires-clause-follow
blob_into-requires-clause-follow c =
    each_follows c.args.points.now c.requires.offsets c.requires.documents c.requires.spans c.requires.rise (no_first (large_steps [] c.args.points.now)
    (sym c.first_large_step.ensures ∙ c.in_default.is))
