use Rattle.ppdb_show.proofs.query.point.put_point_line.Goals as goal

pub returns-in-Hidden : goal.returns-in-Hidden
returns-in-Hidden c = rw c.in-Hidden.is c.put_line.ensures

pub returns-in-Lines : goal.returns-in-Lines
returns-in-Lines c = rw c.in-Lines.is c.put_line-in-Lines.ensures
