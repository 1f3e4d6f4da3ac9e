use Rattle.ppdb_show.proofs.show.documents.put_value.Goals as goal

pub returns : goal.returns
returns g c = rw c.as_slice.ensures at (rw c.as_slice-2.ensures at c.put_line.ensures)
