use Rattle.std.{proofs.Common.{◌≡◌, length, map}, specs.Prelude.{None}}
use Rattle.ppdb_show_lines.{proofs.Putting.{Putting}, specs.Forms.{lines_as}, specs.Uses.{use_line}}
use Rattle.ppdb_values.specs.Imports.{import_value}
use Rattle.ppdb_show.proofs.show.imports.put_uses.Given as goal

abbrev pub invariant-imports : goal.invariant-imports
invariant-imports g l =
    let sink = g.O.Sink in
    record {
      whole : l.imports.fault ≡ None;
      put : Putting (sink.written l.fn.out) (sink.written l.out) (sink.faults l.fn.out) (sink.faults l.out)
          (lines_as l.printer.form (map use_line (map import_value l.imports.items)))
          (lines_as l.printer.form (map use_line (map import_value l.fn.imports.items)));
    }

abbrev pub decreases-imports : goal.decreases-imports
decreases-imports g l = length l.imports.items
