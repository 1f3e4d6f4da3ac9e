use Rattle.std.proofs.Common.{◌+◌, ◌-◌, ◌≤◌}
use Rattle.ppdb_show_lines.proofs.Putting.{Putting}
use Rattle.ppdb_values.specs.Value.{value_of}
use Rattle.ppdb_verify.specs.Views.{raw_file}
use Rattle.ppdb_show_sources.{specs.Links.{link_text}, proofs.Documents.{lines_after}}
use Rattle.ppdb_show_sources.proofs.links.put_links.Given as goal

abbrev pub invariant-rows : goal.invariant-rows
invariant-rows g l =
    let sink = g.O.Sink in
    record {
      later : l.fn.steps ≤ l.steps;
      cost : l.steps + 1 ≤ l.fn.steps + l.row;
      put : Putting (sink.written l.fn.out) (sink.written l.out) (sink.faults l.fn.out) (sink.faults l.out)
          (lines_after l.printer.form (raw_file l.file).tables l.links (l.row - 1)) (link_text l.printer.form (value_of (raw_file l.file)) l.links);
    }
