use Rattle.std.proofs.Common.{sym}
use Rattle.ppdb_tables.specs.RawOf.{raw_of}
use Rattle.ppdb_verify_total.proofs.{Rising.{rising}, Sums.{span_accepted, span_first}}
use Rattle.ppdb_verify_total.proofs.tables.judge_spans.Goals as goal

pub returns-in-Ok-clause-accepted : goal.returns-in-Ok-clause-accepted
returns-in-Ok-clause-accepted g c = span_accepted (raw_of c.args.tables.now) (rising (raw_of c.args.tables.now)) c.in-Ok.field-0 (sym c.in-Ok.ensures)

pub returns-in-Err-clause-first : goal.returns-in-Err-clause-first
returns-in-Err-clause-first g c = span_first (raw_of c.args.tables.now) (rising (raw_of c.args.tables.now)) c.in-Err.fault (sym c.in-Err.ensures)
