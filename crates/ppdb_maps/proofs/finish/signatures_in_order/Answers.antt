use Rattle.std.proofs.{Common.{rules}, lemmas.Fn.{always_returns_same}}
use Rattle.ppdb_maps.specs.Gathered.{signature_key}
use Rattle.ppdb_maps.proofs.finish.signatures_in_order.Goals as goal

pub returns-clause-sorted : goal.returns-clause-sorted
returns-clause-sorted c = c.in_ok-sort_by_key.ensures.sorted signature_key (always_returns_same _ _ _ (λ a r f k. search rules))
