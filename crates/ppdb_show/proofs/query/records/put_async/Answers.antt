use Rattle.ppdb_show.proofs.Added.{then_ok}
use Rattle.ppdb_show.proofs.query.records.put_async.Goals as goal

pub put_steps-requires : goal.put_steps-requires
put_steps-requires c = c.stepping_of-cursor.ensures.whole

pub returns : goal.returns
returns c = rw c.stepping_of-cursor.ensures.body (then_ok c.args.printer.form _ _ _ _ _ _ (rw c.handler.ensures at c.in_ok-put_handler.ensures) c.put_steps.ensures)
