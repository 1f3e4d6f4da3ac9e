use Rattle.std.proofs.Common.{◌-◌, ◌/◌, ◌+◌, arith, length}
use Rattle.ppdb_queries.proofs.{Powers.{within_digits}, Searches.{all_below, all_above, probed, unprobed}}
use Rattle.ppdb_queries.proofs.search.first_not_below.Goals as goal

pub halves-init : goal.halves-init
halves-init g c =
    let between = c.requires.between in
    let from = between.from in
    let to = between.to in
    record {
      from = between.from;
      forward = between.forward;
      to = between.to;
      below = between.below;
      above = between.above;
      later = omega arith;
      halved = unprobed (length (g.R.KeyedRows.keys c.args.rows.now)) c.args.steps.now _ (omega (arith, from, to));
    }

pub halves-preserved-then-key : goal.halves-preserved-then-key
halves-preserved-then-key g c =
    let keys = g.R.KeyedRows.keys c.args.rows.now in
    record {
      from = omega arith;
      forward = omega arith;
      to = c.halves.invariant.to;
      below = all_below keys c.args.key (c.halves.first + (c.halves.end - c.halves.first) / 2) c.key.result c.requires.sorted c.key.ensures.key (omega arith)
          (omega arith) c.if-key.true;
      above = c.halves.invariant.above;
      later = omega arith;
      halved = probed _ _ _ _ _ _ c.halves.invariant.halved c.key.ensures.step (omega arith) (omega arith) (omega arith);
    }

pub halves-preserved : goal.halves-preserved
halves-preserved g c =
    let keys = g.R.KeyedRows.keys c.args.rows.now in
    record {
      from = omega arith;
      forward = omega arith;
      to = omega arith;
      below = c.halves.invariant.below;
      above = all_above keys c.args.key (c.halves.first + (c.halves.end - c.halves.first) / 2) c.key.result c.requires.sorted c.key.ensures.key (omega arith)
          (omega arith) c.if-key.false;
      later = omega arith;
      halved = probed _ _ _ _ _ _ c.halves.invariant.halved c.key.ensures.step (omega arith) (omega arith) (omega arith);
    }

pub returns-clause-cost : goal.returns-clause-cost
returns-clause-cost g c =
    let h = within_digits (c.halves.steps - c.args.steps.now) (length (g.R.KeyedRows.keys c.args.rows.now)) c.halves.invariant.halved.cost in
    omega (arith, h)
