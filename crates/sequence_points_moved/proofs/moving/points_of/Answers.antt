use Rattle.std.proofs.Common.{[], None, ◌∙◌}
use Rattle.sequence_points_moved.proofs.Readings.{same_points, no_fault}
use Rattle.sequence_points_moved.proofs.moving.points_of.Goals as goal

pub new-requires-in-Ok : goal.new-requires-in-Ok
new-requires-in-Ok c =
    let w = c.requires.whole in
    (same_points c.args.column c.args.limits c.args.blob.now c.in-Ok.cursor.signature w.0 c.in-Ok.cursor.left.items w.1 c.in-Ok.cursor.left.fault None
    c.in-Ok.ensures.ok w.2).1

pub unreachable-requires : goal.unreachable-requires
unreachable-requires c = no_fault c.args.column c.args.limits c.args.blob.now [] c.in-Err.field-0 c.requires.whole c.in-Err.ensures.err

pub returns : goal.returns
returns c = λ signature points reads.
    c.new-in-Ok.ensures
    ∙ (same_points c.args.column c.args.limits c.args.blob.now c.in-Ok.cursor.signature signature c.in-Ok.cursor.left.items points c.in-Ok.cursor.left.fault
    None c.in-Ok.ensures.ok reads).0
