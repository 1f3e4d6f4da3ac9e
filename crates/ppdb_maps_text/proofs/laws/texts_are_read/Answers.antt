use Rattle.ppdb_maps_text.proofs.Reading.{texts_are_read}
use Rattle.ppdb_maps_text.proofs.laws.texts_are_read.Goals as goal

pub returns : goal.returns
returns c = texts_are_read
