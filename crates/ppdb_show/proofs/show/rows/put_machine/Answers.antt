use Rattle.ppdb_show.proofs.show.rows.put_machine.Goals as goal

pub returns : goal.returns
returns g c = rw c.machine-machine.ensures.row c.put_line.ensures
