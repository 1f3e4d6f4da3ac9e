use Rattle.std.{proofs.Common.{◌≡◌, length, map}, specs.Prelude.{None}}
use Rattle.ppdb_show_lines.{proofs.Putting.{Putting}, specs.Forms.{lines_as}}
use Rattle.ppdb_show.specs.Show.{point_line}
use Rattle.ppdb_show.proofs.show.methods.put_points.Given as goal

abbrev pub invariant-points : goal.invariant-points
invariant-points g l =
    let sink = g.O.Sink in
    record {
      whole : l.points.left.fault ≡ None;
      put : Putting (sink.written l.fn.out) (sink.written l.out) (sink.faults l.fn.out) (sink.faults l.out)
          (lines_as l.printer.form (map point_line l.points.left.items)) (lines_as l.printer.form (map point_line l.fn.points.left.items));
    }

abbrev pub decreases-points : goal.decreases-points
decreases-points g l = length l.points.left.items
