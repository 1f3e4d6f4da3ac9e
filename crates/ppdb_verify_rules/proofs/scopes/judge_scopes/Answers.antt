use Rattle.std.proofs.Common.{arith}
use Rattle.ppdb_tables.{specs.RawOf.{raw_of}, proofs.NumberedRows.{row_within}}
use Rattle.ppdb_verify_rules.proofs.ScopeFaults.{first_row}
use Rattle.ppdb_verify_rules.proofs.scopes.judge_scopes.Goals as goal

pub loop-row-init : goal.loop-row-init
loop-row-init g c = record {
  judged = first_row (raw_of c.args.tables.now) c.requires.judged;
  opened = λ b there. absurd (let w = row_within (raw_of c.args.tables.now).scopes 0 b there in omega (arith, w.0));
}
