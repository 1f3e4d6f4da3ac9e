use Rattle.ppdb_tables.specs.RawOf.{raw_of}
use Rattle.ppdb_verify_rules.proofs.CustomFaults.{past_row}
use Rattle.ppdb_verify_rules.proofs.customs.judge_custom.Goals as goal

pub returns-clause-ok : goal.returns-clause-ok
returns-clause-ok g c = past_row (raw_of c.args.tables.now) c.args.row c.args.custom.now c.requires.there c.in_ok-judge_value.ensures.ok
