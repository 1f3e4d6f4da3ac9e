use Rattle.std.proofs.Common.{to_z-of_z}
use Rattle.ppdb_base.proofs.Written.{puts_cut, puts_then}
use Rattle.ppdb_run_stops.proofs.limit.put_signed_line.Goals as goal

pub returns-in_err-put_signed : goal.returns-in_err-put_signed
returns-in_err-put_signed g c =
    puts_cut _ _ _ _ _ _ _ _ c.from_residual.ensures.1 (rw (to_z-of_z c.ranges.number) at c.in_err-put_signed.ensures)

pub returns : goal.returns
returns g c = puts_then _ _ _ _ _ _ _ _ _ (rw (to_z-of_z c.ranges.number) at c.in_ok-put_signed.ensures) c.put.ensures
