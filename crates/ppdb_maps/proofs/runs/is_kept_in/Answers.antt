use Rattle.std.proofs.{Common.{ltb-true}, lemmas.Bool.{lt-ltb}}
use Rattle.ppdb_maps.proofs.Lines.{between_at, not_between}
use Rattle.ppdb_maps.proofs.runs.is_kept_in.Goals as goal

pub returns-then-from-to : goal.returns-then-from-to
returns-then-from-to c = (
  (λ t. between_at _ _ _ _ c.in-Some.ensures c.if-from-to.true (ltb-true _ _ t)),
  (λ found. lt-ltb _ _ (not_between _ _ _ _ c.in-Some.ensures found)),
)
