use Rattle.std.proofs.Common.{◌≡◌, arith, to_z, of_z, w64, to_z-of_z}
use Rattle.ppdb_base.proofs.Written.{puts_cut, puts_then}
use Rattle.ppdb_run_stops.proofs.limit.put_limit.Goals as goal

pub returns-in_err-put_tabled-in-TableRows : goal.returns-in_err-put_tabled-in-TableRows
returns-in_err-put_tabled-in-TableRows g c = rw c.in-TableRows.is (puts_cut _ _ _ _ _ _ _ _ c.from_residual.ensures.1 c.in_err-put_tabled-in-TableRows.ensures)

pub returns-in_ok-put_tabled-in-TableRows : goal.returns-in_ok-put_tabled-in-TableRows
returns-in_ok-put_tabled-in-TableRows g c = rw c.in-TableRows.is (puts_then _ _ _ _ _ _ _ _ _ c.in_ok-put_tabled-in-TableRows.ensures c.put_number_line.ensures)

pub returns-in_err-put_tabled-in-ListPastEnd : goal.returns-in_err-put_tabled-in-ListPastEnd
returns-in_err-put_tabled-in-ListPastEnd g c = rw c.in-ListPastEnd.is
    (puts_cut _ _ _ _ _ _ _ _ c.from_residual-in_err-put_tabled-in-ListPastEnd.ensures.1 c.in_err-put_tabled-in-ListPastEnd.ensures)

pub returns-in_ok-put_tabled-in-ListPastEnd : goal.returns-in_ok-put_tabled-in-ListPastEnd
returns-in_ok-put_tabled-in-ListPastEnd g c = rw c.in-ListPastEnd.is
    (puts_then _ _ _ _ _ _ _ _ _ c.in_ok-put_tabled-in-ListPastEnd.ensures (rw c.from.ensures at c.put_number_line-in-ListPastEnd.ensures))

pub returns-in_err-put_numbered-in-PointOffset : goal.returns-in_err-put_numbered-in-PointOffset
returns-in_err-put_numbered-in-PointOffset g c = rw c.in-PointOffset.is
    (puts_cut _ _ _ _ _ _ _ _ c.from_residual-in_err-put_numbered-in-PointOffset.ensures.1 c.in_err-put_numbered-in-PointOffset.ensures)

pub returns-in_ok-put_numbered-in-PointOffset : goal.returns-in_ok-put_numbered-in-PointOffset
returns-in_ok-put_numbered-in-PointOffset g c = rw c.in-PointOffset.is
    (puts_then _ _ _ _ _ _ _ _ _ c.in_ok-put_numbered-in-PointOffset.ensures (rw c.from-in-PointOffset.ensures at c.put_number_line-in-PointOffset.ensures))

pub returns-in_err-put_numbered-in-LineStep : goal.returns-in_err-put_numbered-in-LineStep
returns-in_err-put_numbered-in-LineStep g c = rw c.in-LineStep.is
    (puts_cut _ _ _ _ _ _ _ _ c.from_residual-in_err-put_numbered-in-LineStep.ensures.1 c.in_err-put_numbered-in-LineStep.ensures)

pub returns-in_ok-put_numbered-in-LineStep : goal.returns-in_ok-put_numbered-in-LineStep
returns-in_ok-put_numbered-in-LineStep g c =
    let back : to_z w64 (of_z w64 c.in-LineStep.step) ≡ c.in-LineStep.step = grind (arith, to_z-of_z) in
    rw c.in-LineStep.is (puts_then _ _ _ _ _ _ _ _ _ c.in_ok-put_numbered-in-LineStep.ensures (rw back at c.put_signed_line.ensures))

pub returns-in-FileSize : goal.returns-in-FileSize
returns-in-FileSize g c = rw c.in-FileSize.is c.put_number_line-in-FileSize.ensures
