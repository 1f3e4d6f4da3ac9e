use Rattle.ppdb_merge_unmoved_laws.proofs.Fitting.{sound_files_stay}
use Rattle.ppdb_merge_unmoved_laws.proofs.laws.sound_files_stay.Goals as goal

pub returns : goal.returns
returns c = sound_files_stay c.soundness_is_annotated.ensures c.values_come_back.ensures c.one_file_stays.ensures
