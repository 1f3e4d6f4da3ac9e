use Rattle.ppdb_show.proofs.show.owned.put_constant.Goals as goal

pub returns : goal.returns
returns g c = rw (c.constant-constant.ensures.row, c.requires.owner) (rw c.text.ensures at (rw c.blob.ensures.content at c.put_line.ensures))
