use Rattle.ppdb_base.proofs.Written.{puts_cut, puts_then}
use Rattle.ppdb_run_stops.proofs.limit.put_number_line.Goals as goal

pub returns-in_err-put_numbered64 : goal.returns-in_err-put_numbered64
returns-in_err-put_numbered64 g c = puts_cut _ _ _ _ _ _ _ _ c.from_residual.ensures.1 c.in_err-put_numbered64.ensures

pub returns : goal.returns
returns g c = puts_then _ _ _ _ _ _ _ _ _ c.in_ok-put_numbered64.ensures c.put.ensures
