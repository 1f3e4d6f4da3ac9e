use Rattle.ppdb_base.specs.First.{IsFirst}
use Rattle.ppdb_tables.specs.RawOf.{raw_of}
use Rattle.ppdb_verify_rules.specs.Rows.{RowFaults}
use Rattle.ppdb_verify.{specs.Files.{RowsFaults}, proofs.Families.{both_accepted, fault_is, row_is_first}}
use Rattle.ppdb_verify.proofs.judge.judge_all.Goals as goal

pub returns-in-Ok-judge_rows-clause-accepted : goal.returns-in-Ok-judge_rows-clause-accepted
returns-in-Ok-judge_rows-clause-accepted g c = both_accepted (raw_of c.args.tables.now) c.in-Ok-judge_rows.ensures.accepted c.in-Ok.ensures.accepted

pub returns-in-Err-judge_rows-clause-first : goal.returns-in-Err-judge_rows-clause-first
returns-in-Err-judge_rows-clause-first g c =
    fault_is (IsFirst (RowFaults (raw_of c.args.tables.now))) (IsFirst (RowsFaults (raw_of c.args.tables.now)))
    (λ f first. row_is_first (raw_of c.args.tables.now) f c.in-Ok.ensures.accepted first) c.in-Err-judge_rows.error c.in-Err-judge_rows.ensures.first
