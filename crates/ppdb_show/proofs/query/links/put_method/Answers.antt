use Rattle.ppdb_show.proofs.Added.{adds_none}
use Rattle.ppdb_show.proofs.query.links.put_method.Goals as goal

pub returns-in-None : goal.returns-in-None
returns-in-None c = rw c.in-None.is (adds_none c.args.printer.form c.args.text.now)
