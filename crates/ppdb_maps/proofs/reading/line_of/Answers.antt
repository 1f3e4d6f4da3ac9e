use Rattle.ppdb_maps.specs.Forms.{shares_line}
use Rattle.ppdb_maps.proofs.reading.line_of.Goals as goal

pub returns-in-Sharing : goal.returns-in-Sharing
returns-in-Sharing c = rw c.in-Sharing.is shares_line
