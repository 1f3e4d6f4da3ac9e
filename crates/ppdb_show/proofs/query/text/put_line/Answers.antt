use Rattle.std.proofs.Common.{sym, ◌∙◌}
use Rattle.ppdb_show_lines.specs.Views.{line_of}
use Rattle.ppdb_show.proofs.Added.{added}
use Rattle.ppdb_show.proofs.query.text.put_line.Goals as goal

pub returns : goal.returns
returns c =
    added c.args.printer.form c.put_line.result c.args.text.now c.put_line.new.out (line_of c.args.word.now c.args.parts.now) (sym c.is_err.ensures.value
    ∙ c.if-is_err.false) c.put_line.ensures.ok
