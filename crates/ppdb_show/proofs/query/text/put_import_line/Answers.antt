use Rattle.std.proofs.Common.{sym, ◌∙◌}
use Rattle.type_blobs.specs.ImportReading.{shown}
use Rattle.ppdb_values.specs.Imports.{import_value}
use Rattle.ppdb_show_lines.specs.Uses.{use_line}
use Rattle.ppdb_show.proofs.Added.{added}
use Rattle.ppdb_show.proofs.query.text.put_import_line.Goals as goal

pub returns : goal.returns
returns c =
    added c.args.printer.form c.put_use.result c.args.text.now c.put_use.new.out (use_line (import_value (shown c.args.import.now)))
    (sym c.is_err.ensures.value ∙ c.if-is_err.false)
    c.put_use.ensures.ok
