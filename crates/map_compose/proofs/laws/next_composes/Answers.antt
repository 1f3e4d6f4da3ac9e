use Rattle.map_compose.proofs.Next.{next_composes}
use Rattle.map_compose.proofs.laws.next_composes.Goals as goal

pub returns : goal.returns
returns c = next_composes
