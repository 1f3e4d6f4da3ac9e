use Rattle.ppdb_values.specs.Value.{value_of}
use Rattle.ppdb_build_written_laws.proofs.laws.rebuilt_files_rebuild_to_themselves.Goals as goal

pub returns : goal.returns
returns c = λ file raw choice valid is none again reads.
    let sound = c.valid_files_are_sound.ensures file raw valid is in
    c.written_files_are_canonical.ensures (value_of raw) choice sound.sound sound.types none again reads
