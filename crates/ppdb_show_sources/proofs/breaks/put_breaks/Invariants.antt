use Rattle.std.proofs.Common.{◌+◌, ◌≤◌, length}
use Rattle.ppdb_show_lines.proofs.Putting.{Putting}
use Rattle.ppdb_show_sources.specs.Breaks.{text_of_breaks}
use Rattle.ppdb_show_sources.proofs.breaks.put_breaks.Given as goal

abbrev pub invariant-breaks : goal.invariant-breaks
invariant-breaks g l =
    let sink = g.O.Sink in
    record {
      later : l.fn.steps ≤ l.steps;
      cost : l.steps + l.breaks.rows ≤ l.fn.steps + l.fn.breaks.rows;
      put : Putting (sink.written l.fn.out) (sink.written l.out) (sink.faults l.fn.out) (sink.faults l.out)
          (text_of_breaks l.printer.form l.breaks.items) (text_of_breaks l.printer.form l.fn.breaks.items);
    }

abbrev pub decreases-breaks : goal.decreases-breaks
decreases-breaks g l = length l.breaks.items
