use Rattle.ppdb_values_check.specs.Pairs.{PairsBelow}
use Rattle.ppdb_values_check.proofs.order.in_order.Given as goal

abbrev pub invariant-loop-i : goal.invariant-loop-i
invariant-loop-i g l = PairsBelow g.T.Ordered.before l.items l.i
