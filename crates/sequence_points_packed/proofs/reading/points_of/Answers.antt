use Rattle.std.proofs.Common.{[], None, sym}
use Rattle.sequence_points_packed.{specs.Packed.{points_in}, proofs.Readings.{points_are, fault_is, left_is, no_fault}}
use Rattle.sequence_points_packed.proofs.reading.points_of.Goals as goal

pub unreachable-requires : goal.unreachable-requires
unreachable-requires c = no_fault c.args.column c.args.count c.args.blob.now [] c.in-Err.field-0 c.requires c.in-Err.ensures.err

pub returns : goal.returns
returns c =
    let left = c.in-Ok.cursor.left in
    let reads = c.in-Ok.ensures.ok in
    left_is left (points_in c.args.column c.args.blob.now) None
    (sym (points_are c.args.column c.in-Ok.cursor.signature c.args.blob.now left.items left.fault reads))
    (fault_is c.args.column c.args.count c.args.blob.now reads.entries left.fault c.requires reads.reading)
