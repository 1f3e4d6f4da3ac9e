use Rattle.ppdb_run_stops.proofs.stop.Stop.put.Goals as goal

pub returns-in-ReadFault : goal.returns-in-ReadFault
returns-in-ReadFault g c = rw c.in-ReadFault.is c.put_name.ensures

pub returns-in-WriteFault : goal.returns-in-WriteFault
returns-in-WriteFault g c = rw c.in-WriteFault.is c.put_name-in-WriteFault.ensures

pub returns-in-MapLimit : goal.returns-in-MapLimit
returns-in-MapLimit g c = rw c.in-MapLimit.is c.put_number_line.ensures
