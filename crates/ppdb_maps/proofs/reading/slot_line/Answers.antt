use Rattle.ppdb_maps.specs.Forms.{slot_line}
use Rattle.ppdb_maps.proofs.reading.slot_line.Goals as goal

pub returns : goal.returns
returns c = slot_line c.in_ok-method.ensures.some c.in_ok-old.ensures.some c.in_ok-new.ensures.some
