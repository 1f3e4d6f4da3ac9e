use Rattle.source_link.proofs.Free.{order_is_free}
use Rattle.source_link.proofs.laws.order_is_free.Goals as goal

pub returns : goal.returns
returns c = order_is_free
