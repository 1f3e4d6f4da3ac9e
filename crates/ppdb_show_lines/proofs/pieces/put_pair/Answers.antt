use Rattle.ppdb_base.proofs.Written.{puts_cut, puts_then}
use Rattle.ppdb_show_lines.proofs.pieces.put_pair.Goals as goal

pub returns-in_err-put : goal.returns-in_err-put
returns-in_err-put g c = puts_cut _ _ _ _ _ _ _ _ c.from_residual.ensures.1 c.in_err-put.ensures

pub returns : goal.returns
returns g c = puts_then _ _ _ _ _ _ _ _ _ c.in_ok-put.ensures c.put-2.ensures
