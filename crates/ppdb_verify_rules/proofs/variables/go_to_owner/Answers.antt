use Rattle.std.proofs.Common.{arith}
use Rattle.ppdb_tables.specs.{declared.rows.VariableRow.{VariableRow}, RawOf.{raw_of}}
use Rattle.ppdb_verify_rules.proofs.ListOwners.{texts_at_new}
use Rattle.ppdb_verify_rules.proofs.variables.go_to_owner.Goals as goal

pub returns : goal.returns
returns c = texts_at_new (λ s. s.variables) (raw_of c.args.tables.now).scopes (raw_of c.args.tables.now).texts (λ (v : VariableRow). v.name)
    (raw_of c.args.tables.now).variables c.args.row c.args.before c.args.owner c.clear.new.self
    c.requires.before (omega (arith, c.requires.on, c.if-owner-before.false)) c.clear.ensures
