use Rattle.ppdb_show.proofs.Added.{adds_none}
use Rattle.ppdb_show.proofs.query.links.put_entry.Goals as goal

pub returns-then-not-is_entry : goal.returns-then-not-is_entry
returns-then-not-is_entry c = rw c.if-not-is_entry.true (adds_none c.args.printer.form c.args.text.now)
