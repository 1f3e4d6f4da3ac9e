use Rattle.ppdb_show_lines.proofs.Keeping.{keeps_cut, keeps_then}
use Rattle.ppdb_show_lines.proofs.text.put_field.Goals as goal

pub returns-in_err-put : goal.returns-in_err-put
returns-in_err-put g c = keeps_cut _ _ _ _ _ _ _ _ _ _ _ c.from_residual.ensures.1 (rw c.as_bytes.ensures.value at c.in_err-put.ensures)

pub returns-in-Number : goal.returns-in-Number
returns-in-Number g c = rw c.in-Number.is (keeps_then _ _ _ _ _ _ _ _ _ _ _ _ (rw c.as_bytes.ensures.value at c.in_ok-put.ensures) c.put_number.ensures)

pub returns-in_default : goal.returns-in_default
returns-in_default g c = keeps_then _ _ _ _ _ _ _ _ _ _ _ _ (rw c.as_bytes.ensures.value at c.in_ok-put.ensures) c.put_behind.ensures
