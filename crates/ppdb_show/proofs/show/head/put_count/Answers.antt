use Rattle.std.proofs.Common.{sym, ◌∙◌}
use Rattle.ppdb_tables.specs.RawOf.{raw_of}
use Rattle.ppdb_show_lines.proofs.Putting.{puts_nothing}
use Rattle.ppdb_show.proofs.Lines.{no_count}
use Rattle.ppdb_show.proofs.show.head.put_count.Goals as goal

pub returns-then-count-eq0 : goal.returns-then-count-eq0
returns-then-count-eq0 g c =
    rw (no_count c.args.printer.form (raw_of c.args.tables.now) c.args.table (sym c.rows-count.ensures ∙ c.if-count-eq0.true)) (puts_nothing _ _)
