use Rattle.ppdb_tables.specs.RawOf.{raw_of}
use Rattle.ppdb_verify_rules.proofs.MethodDebugFaults.{past_row}
use Rattle.ppdb_verify_rules.proofs.methods.judge_method.Goals as goal

pub returns-clause-ok : goal.returns-clause-ok
returns-clause-ok c = past_row (raw_of c.args.tables.now) c.args.row c.args.method.now c.requires.there c.in_ok-judge_points.ensures.ok
