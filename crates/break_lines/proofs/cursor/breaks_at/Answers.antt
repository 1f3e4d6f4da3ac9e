use Rattle.ppdb_verify.specs.Views.{raw_file}
use Rattle.break_lines.proofs.cursor.breaks_at.Goals as goal

pub returns-clause-breaks : goal.returns-clause-breaks
returns-clause-breaks c = rw c.copy_of.ensures (c.breaks_are_rows.ensures.items (raw_file c.args.file.now) c.args.document c.args.line)
