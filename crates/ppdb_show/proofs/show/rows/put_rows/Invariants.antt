use Rattle.std.proofs.Common.{◌+◌, ◌-◌, ◌≤◌}
use Rattle.ppdb_show_lines.{proofs.Putting.{Putting}, specs.Forms.{lines_as}}
use Rattle.ppdb_verify.specs.Views.{raw_file}
use Rattle.ppdb_show.specs.ShowWalk.{between, lines_of_row, lines_of_table}
use Rattle.ppdb_show.proofs.show.rows.put_rows.Given as goal

abbrev pub invariant-rows : goal.invariant-rows
invariant-rows g l =
    let sink = g.O.Sink in
    let raw = (raw_file l.file).tables in
    record {
      from : 1 ≤ l.row;
      to : l.row ≤ l.count + 1;
      put : Putting (sink.written l.fn.out) (sink.written l.out) (sink.faults l.fn.out) (sink.faults l.out)
          (lines_as l.printer.form (between (lines_of_row raw l.rows) l.row (l.count + 1))) (lines_as l.printer.form (lines_of_table raw l.rows));
    }

abbrev pub decreases-rows : goal.decreases-rows
decreases-rows g l = l.count + 1 - l.row
