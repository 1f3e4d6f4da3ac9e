use Rattle.ppdb_tables.specs.RawOf.{raw_of}
use Rattle.ppdb_verify_rules.specs.Judged.{ToTable}
use Rattle.ppdb_verify_rules.proofs.rows.judge_tables_before.Given as goal

abbrev pub invariant-loop-table : goal.invariant-loop-table
invariant-loop-table g l = ToTable (raw_of l.tables) l.table
