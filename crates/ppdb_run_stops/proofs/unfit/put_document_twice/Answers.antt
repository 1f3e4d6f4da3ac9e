use Rattle.ppdb_run_stops.proofs.unfit.put_document_twice.Goals as goal

pub returns : goal.returns
returns g c = rw c.as_bytes.ensures.value at c.put_text_line.ensures
