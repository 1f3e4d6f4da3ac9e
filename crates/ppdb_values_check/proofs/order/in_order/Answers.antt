use Rattle.std.proofs.{Common.{arith, ◌-◌}, lemmas.List.Elements.{pair_read}}
use Rattle.ppdb_values_check.proofs.Pairs.{next_in_order}
use Rattle.ppdb_values_check.proofs.order.in_order.Goals as goal

pub loop-i-preserved : goal.loop-i-preserved
loop-i-preserved g c = next_in_order g.T.Ordered.before c.args.items.now g.met.T.Ordered.goes_on c.loop-i.i c.loop-i.auto.i c.loop-i.invariant
    (pair_read c.args.items.now g.T.Ordered.before (c.loop-i.i - 1) c.loop-i.i c.index-items-i.result c.index-items-i-in-loop-i.result
    (omega arith) c.loop-i-test.true c.index-items-i.is c.index-items-i-in-loop-i.is (c.comes_before.ensures.0 c.if-not-comes_before.false))
