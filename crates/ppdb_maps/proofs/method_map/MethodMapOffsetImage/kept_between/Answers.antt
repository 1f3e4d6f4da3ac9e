use Rattle.std.proofs.{Common.{arith, ltb-true}, lemmas.Bool.{lt-ltb}}
use Rattle.ppdb_maps.proofs.Lines.{every_between, line_rises}
use Rattle.ppdb_maps.proofs.method_map.MethodMapOffsetImage.kept_between.Goals as goal

pub is_kept_in-requires : goal.is_kept_in-requires
is_kept_in-requires c = line_rises _ _ _ (rw c.in-Lined.is at c.args.self.now.rises)

pub returns-in-Every : goal.returns-in-Every
returns-in-Every c = rw c.in-Every.is (
  (λ t. every_between _ _ (omega arith) (ltb-true _ _ t)),
  (λ found. lt-ltb _ _ (omega (arith, found.after, found.before))),
)
