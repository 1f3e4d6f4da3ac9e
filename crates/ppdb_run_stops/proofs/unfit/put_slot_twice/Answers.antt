use Rattle.ppdb_run_stops.proofs.unfit.put_slot_twice.Goals as goal

pub returns : goal.returns
returns g c = rw (c.as_bytes.ensures.value, c.from.ensures, c.from-2.ensures, c.from-3.ensures) at c.put_text_line.ensures
