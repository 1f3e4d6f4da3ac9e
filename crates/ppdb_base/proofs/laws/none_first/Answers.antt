use Rattle.ppdb_base.proofs.Least.{accepted_without_first}
use Rattle.ppdb_base.proofs.laws.none_first.Goals as goal

pub returns : goal.returns
returns g c = accepted_without_first _
