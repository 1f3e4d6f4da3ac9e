use Rattle.ppdb_build_heaps.proofs.Stays.{forms}
use Rattle.ppdb_build_heaps.proofs.laws.items_have_forms.Goals as goal

pub returns : goal.returns
returns c = forms
