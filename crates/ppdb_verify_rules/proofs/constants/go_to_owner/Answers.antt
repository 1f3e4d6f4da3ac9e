use Rattle.std.proofs.Common.{arith}
use Rattle.ppdb_tables.specs.{declared.rows.ConstantRow.{ConstantRow}, RawOf.{raw_of}}
use Rattle.ppdb_verify_rules.proofs.ListOwners.{texts_at_new}
use Rattle.ppdb_verify_rules.proofs.constants.go_to_owner.Goals as goal

pub returns : goal.returns
returns c = texts_at_new (λ s. s.constants) (raw_of c.args.tables.now).scopes (raw_of c.args.tables.now).texts (λ (v : ConstantRow). v.name)
    (raw_of c.args.tables.now).constants c.args.row c.args.before c.args.owner c.clear.new.self
    c.requires.before (omega (arith, c.requires.on, c.if-owner-before.false)) c.clear.ensures
