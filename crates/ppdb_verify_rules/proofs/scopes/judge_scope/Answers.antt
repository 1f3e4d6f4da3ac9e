use Rattle.ppdb_tables.specs.RawOf.{raw_of}
use Rattle.ppdb_verify_rules.proofs.ScopeFaults.{past_row}
use Rattle.ppdb_verify_rules.proofs.scopes.judge_scope.Goals as goal

pub returns-clause-ok : goal.returns-clause-ok
returns-clause-ok g c = past_row (raw_of c.args.tables.now) c.args.row c.args.scope.now c.requires.there c.in_ok-judge_range.ensures.ok
