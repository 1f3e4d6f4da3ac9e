use Rattle.ppdb_show.proofs.show.owned.put_variable.Goals as goal

pub returns : goal.returns
returns g c = rw (c.variable-variable.ensures.row, c.requires.owner) (rw c.text.ensures at c.put_line.ensures)
