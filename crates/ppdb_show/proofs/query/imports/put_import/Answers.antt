use Rattle.ppdb_show.proofs.Added.{then_ok}
use Rattle.ppdb_show.proofs.query.imports.put_import.Goals as goal

pub returns-clause-ok : goal.returns-clause-ok
returns-clause-ok g c =
    then_ok c.args.printer.form _ _ _ _ _ _ c.in_ok-put_line.ensures
    (then_ok c.args.printer.form _ _ _ _ _ _ c.in_ok-put_uses.ensures c.put_customs.ensures.ok)
