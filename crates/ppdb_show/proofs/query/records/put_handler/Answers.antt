use Rattle.ppdb_show.proofs.query.records.put_handler.Goals as goal

pub returns : goal.returns
returns c = rw c.handler_item.ensures at c.put_line.ensures
