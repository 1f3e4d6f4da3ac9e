use Rattle.std.proofs.Common.{arith, ap, length}
use Rattle.type_blobs.proofs.FieldsLeft.{after_more}
use Rattle.type_blobs.proofs.import_fields.begun_after.Goals as goal

pub returns-then-fields-parts_of-clause-shape : goal.returns-then-fields-parts_of-clause-shape
returns-then-fields-parts_of-clause-shape c limits heap =
    after_more limits heap c.args.kind c.args.fields c.args.n c.if-fields-eq0.false (omega (arith, c.if-fields-parts_of.true, ap length c.parts_of.ensures))
