use Rattle.ppdb_maps.proofs.SampleTexts.{sample_texts}
use Rattle.ppdb_maps.proofs.laws.sample_texts_have_their_maps.Goals as goal

pub returns : goal.returns
returns c = sample_texts
