use Rattle.ppdb_run_stops.proofs.unfit.put_slot_unmapped.Goals as goal

pub returns : goal.returns
returns g c = rw (c.as_bytes.ensures.value, c.from.ensures) at c.put_text_line.ensures
