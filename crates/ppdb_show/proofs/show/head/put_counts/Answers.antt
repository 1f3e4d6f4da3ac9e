use Rattle.std.proofs.Common.{arith}
use Rattle.ppdb_tables.specs.RawOf.{raw_of}
use Rattle.ppdb_show_lines.proofs.Putting.{put_none, put_piece, put_prefix, put_whole}
use Rattle.ppdb_show.{specs.Show.{count_lines_of}, proofs.Lines.{counts_between, next_row, last_row}}
use Rattle.ppdb_show.proofs.show.head.put_counts.Goals as goal

pub counts-init : goal.counts-init
counts-init g c =
    record { to = omega arith; put = rw (counts_between c.args.printer.form (raw_of c.args.tables.now)) (put_none (g.O.Sink.written c.args.out.now) _ _) }

pub returns-in_err-put_count : goal.returns-in_err-put_count
returns-in_err-put_count g c =
    put_prefix _ _ _ _ _ _ _ _ _ _ _ (rw (next_row c.args.printer.form (count_lines_of (raw_of c.args.tables.now)) c.counts.table 0x2d (omega arith)) at
    c.counts.invariant.put) c.from_residual.ensures.1 c.in_err-put_count.ensures

pub counts-preserved : goal.counts-preserved
counts-preserved g c = record {
  to = omega arith;
  put = put_piece _ _ _ _ _ _ _ _ _ (rw (next_row c.args.printer.form (count_lines_of (raw_of c.args.tables.now)) c.counts.table 0x2d (omega arith)) at
      c.counts.invariant.put) c.in_ok-put_count.ensures;
}

pub returns : goal.returns
returns g c = put_whole _ _ _ _ _ (rw (last_row c.args.printer.form (count_lines_of (raw_of c.args.tables.now)) c.counts.table 0x2d (omega arith)) at
    c.counts.invariant.put)
