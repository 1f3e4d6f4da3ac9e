use Rattle.map_compose.proofs.Readable.{composed_is_readable}
use Rattle.map_compose.proofs.laws.composed_is_readable.Goals as goal

pub returns : goal.returns
returns c = composed_is_readable
