use Rattle.ppdb_run_stops.proofs.fault.put_refused.Goals as goal

pub returns-then-place-eq-ROWS : goal.returns-then-place-eq-ROWS
returns-then-place-eq-ROWS g c =
    rw c.if-place-eq-ROWS.true
    (rw (c.as_bytes.ensures.value, c.from.ensures, c.number.ensures, c.from-then-place-eq-ROWS.ensures) at c.put_text_line.ensures)
