use Rattle.sequence_points.specs.Records.{sequence_points}
use Rattle.ppdb_values.specs.RawFile.{blob, point_limits}
use Rattle.ppdb_verify.specs.Views.{raw_file}
use Rattle.ppdb_show.proofs.Whole.{never_fails, points_whole, points_read}
use Rattle.ppdb_show.proofs.show.methods.points_of.Goals as goal

pub unreachable-requires : goal.unreachable-requires
unreachable-requires c =
    let raw = (raw_file c.args.file.now).tables in
    never_fails (sequence_points c.args.method.now.document (point_limits raw)) (blob raw c.args.method.now.points) _ c.in-Err.field-0
    (points_whole raw c.args.row c.args.method.now c.facts.ensures.rules.methods c.requires.row c.requires.some)
    (rw c.point_limits.ensures at (rw c.blob.ensures.content at c.in-Err.ensures.err))

pub returns-clause-whole : goal.returns-clause-whole
returns-clause-whole c =
    let raw = (raw_file c.args.file.now).tables in
    (points_read raw _ _ _ _ _ (points_whole raw c.args.row c.args.method.now c.facts.ensures.rules.methods c.requires.row c.requires.some)
    (rw c.point_limits.ensures at (rw c.blob.ensures.content at c.in-Ok.ensures.ok))).0

pub returns-clause-points : goal.returns-clause-points
returns-clause-points c =
    let raw = (raw_file c.args.file.now).tables in
    (points_read raw _ _ _ _ _ (points_whole raw c.args.row c.args.method.now c.facts.ensures.rules.methods c.requires.row c.requires.some)
    (rw c.point_limits.ensures at (rw c.blob.ensures.content at c.in-Ok.ensures.ok))).1.0

pub returns-clause-signature : goal.returns-clause-signature
returns-clause-signature c =
    let raw = (raw_file c.args.file.now).tables in
    (points_read raw _ _ _ _ _ (points_whole raw c.args.row c.args.method.now c.facts.ensures.rules.methods c.requires.row c.requires.some)
    (rw c.point_limits.ensures at (rw c.blob.ensures.content at c.in-Ok.ensures.ok))).1.1
