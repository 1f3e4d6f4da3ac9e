use Rattle.std.proofs.Common.{ℕ, ◌+◌, arith, subst}
use Rattle.ppdb_tables.specs.RawOf.{raw_of}
use Rattle.ppdb_verify_rules.{specs.Judged.{ToRow}, proofs.AllRows.{from_first, past_rows}}
use Rattle.ppdb_verify_rules.proofs.rows.judge_tables_before.Goals as goal

pub loop-table-init : goal.loop-table-init
loop-table-init g c = from_first (raw_of c.args.tables.now)

pub loop-table-preserved : goal.loop-table-preserved
loop-table-preserved g c =
    past_rows (raw_of c.args.tables.now) c.row_count-last.ensures.all c.loop-table.table (omega arith) (omega arith)
    (subst (λ (n : ℕ). ToRow (raw_of c.args.tables.now) c.loop-table.table (n + 1)) c.row_count-last.ensures.count c.in_ok-judge_table.ensures.ok)
