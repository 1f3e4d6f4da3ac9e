use Rattle.ppdb_tables.specs.RawOf.{raw_of}
use Rattle.ppdb_verify_rules.proofs.AllRows.{past_last}
use Rattle.ppdb_verify_rules.proofs.rows.judge_rows.Goals as goal

pub returns-clause-accepted : goal.returns-clause-accepted
returns-clause-accepted g c = past_last (raw_of c.args.tables.now) c.in_ok-judge_tables_before.ensures.ok
