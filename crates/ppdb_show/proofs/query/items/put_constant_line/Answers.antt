use Rattle.ppdb_show.proofs.query.items.put_constant_line.Goals as goal

pub returns : goal.returns
returns c = rw c.blob.ensures.content at (rw c.text.ensures at c.put_line.ensures)
