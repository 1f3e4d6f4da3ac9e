use Rattle.ppdb_show.proofs.show.rows.put_scope.Goals as goal

pub returns : goal.returns
returns g c = rw c.scope-scope.ensures.row c.put_line.ensures
