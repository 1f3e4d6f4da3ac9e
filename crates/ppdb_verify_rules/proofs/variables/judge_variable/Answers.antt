use Rattle.ppdb_tables.specs.RawOf.{raw_of}
use Rattle.ppdb_verify_rules.proofs.{ListOwners.{owner_before}, VariableFaults.{past_row}}
use Rattle.ppdb_verify_rules.proofs.variables.judge_variable.Goals as goal

pub returns-clause-ok : goal.returns-clause-ok
returns-clause-ok g c = past_row (raw_of c.args.tables.now) c.args.row c.args.variable.now c.requires.there c.in_ok-judge_name.ensures.ok

pub returns-clause-owner : goal.returns-clause-owner
returns-clause-owner g c = owner_before (λ s. s.variables) (raw_of c.args.tables.now).scopes c.owner_of-owner.result c.args.row c.owner_of-owner.ensures.owns
