use Rattle.std.proofs.Common.{subst}
use Rattle.sequence_points.specs.{Records.{sequence_points}, declared.point.PointLimits.{PointLimits}}
use Rattle.blob_grammar.specs.Places.{HasEnd}
use Rattle.ppdb_verify_rules.proofs.contents.points_fault.Goals as goal

pub returns : goal.returns
returns c =
    subst (λ (l : PointLimits). HasEnd (sequence_points c.args.document l) c.args.content.now c.blob_fault.result) c.point_limits.ensures c.blob_fault.ensures
