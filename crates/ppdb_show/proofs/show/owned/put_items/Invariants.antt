use Rattle.std.proofs.Common.{◌-◌, ◌≤◌}
use Rattle.ppdb_show_lines.{proofs.Putting.{Putting}, specs.Forms.{lines_as}}
use Rattle.ppdb_verify.specs.Views.{raw_file}
use Rattle.ppdb_show.specs.ShowWalk.{lines_between}
use Rattle.ppdb_show.proofs.show.owned.put_items.Given as goal

abbrev pub invariant-items : goal.invariant-items
invariant-items g l =
    let sink = g.O.Sink in
    let raw = (raw_file l.file).tables in
    record {
      from : l.items.first ≤ l.item;
      to : l.item ≤ l.items.end;
      put : Putting (sink.written l.fn.out) (sink.written l.out) (sink.faults l.fn.out) (sink.faults l.out)
          (lines_as l.printer.form (lines_between raw l.owned l.item l.items.end))
          (lines_as l.printer.form (lines_between raw l.owned l.items.first l.items.end));
    }

abbrev pub decreases-items : goal.decreases-items
decreases-items g l = l.items.end - l.item
