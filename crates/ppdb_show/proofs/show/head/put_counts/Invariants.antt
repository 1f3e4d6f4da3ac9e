use Rattle.std.proofs.Common.{◌-◌, ◌≤◌}
use Rattle.ppdb_tables.specs.RawOf.{raw_of}
use Rattle.ppdb_show_lines.{proofs.Putting.{Putting}, specs.Forms.{lines_as}}
use Rattle.ppdb_show.specs.{Show.{count_lines, count_lines_of}, ShowWalk.{between}}
use Rattle.ppdb_show.proofs.show.head.put_counts.Given as goal

abbrev pub invariant-counts : goal.invariant-counts
invariant-counts g l =
    let sink = g.O.Sink in
    record {
      to : l.table ≤ 0x2d;
      put : Putting (sink.written l.fn.out) (sink.written l.out) (sink.faults l.fn.out) (sink.faults l.out)
          (lines_as l.printer.form (between (count_lines_of (raw_of l.tables)) l.table 0x2d)) (lines_as l.printer.form (count_lines (raw_of l.tables)));
    }

abbrev pub decreases-counts : goal.decreases-counts
decreases-counts g l = 0x2d - l.table
