use Rattle.std.proofs.Common.{arith, ◌+◌, ◌≡◌}
use Rattle.ppdb_tables.specs.RawTables.{count}
use Rattle.ppdb_show_lines.proofs.Putting.{put_none, put_piece, put_prefix, put_whole}
use Rattle.ppdb_verify.specs.Views.{raw_file}
use Rattle.ppdb_show.{specs.ShowWalk.{number_of, lines_of_row}, proofs.Lines.{next_row, last_row}, proofs.Numbered.{table_between}}
use Rattle.ppdb_show.proofs.show.rows.put_rows.Goals as goal

pub rows-init : goal.rows-init
rows-init g c =
    let raw = (raw_file c.args.file.now).tables in
    let counted : c.count-count.result ≡ count raw (number_of c.args.rows) = rw c.table_of.ensures at c.count-count.ensures.rows in
    record {
      from = omega arith;
      to = omega arith;
      put = rw (table_between raw c.args.rows c.facts.ensures.rules.shape, counted) (put_none (g.O.Sink.written c.args.out.now) _ _);
    }

pub returns-in_err-put_row : goal.returns-in_err-put_row
returns-in_err-put_row g c =
    let raw = (raw_file c.args.file.now).tables in
    put_prefix _ _ _ _ _ _ _ _ _ _ _ (rw (next_row c.args.printer.form (lines_of_row raw c.args.rows) c.rows.row (c.count-count.result + 1) (omega arith)) at
    c.rows.invariant.put) c.from_residual.ensures.1 c.in_err-put_row.ensures

pub rows-preserved : goal.rows-preserved
rows-preserved g c =
    let raw = (raw_file c.args.file.now).tables in
    record {
      from = omega arith;
      to = omega arith;
      put = put_piece _ _ _ _ _ _ _ _ _ (rw (next_row c.args.printer.form (lines_of_row raw c.args.rows) c.rows.row (c.count-count.result + 1) (omega arith)) at
          c.rows.invariant.put) c.in_ok-put_row.ensures;
    }

pub returns : goal.returns
returns g c =
    put_whole _ _ _ _ _ (rw (last_row c.args.printer.form (lines_of_row (raw_file c.args.file.now).tables c.args.rows) c.rows.row (c.count-count.result + 1)
    (omega arith)) at c.rows.invariant.put)
