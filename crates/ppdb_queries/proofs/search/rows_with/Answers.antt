use Rattle.std.proofs.Common.{◌-◌, ◌/◌, ◌+◌, arith, length}
use Rattle.ppdb_queries.proofs.{Powers.{within_digits}, Searches.{all_below, all_above, probed, unprobed}}
use Rattle.ppdb_queries.proofs.search.rows_with.Goals as goal

pub halves-init : goal.halves-init
halves-init g c = record {
  from = omega arith;
  forward = omega arith;
  to = omega arith;
  within = omega arith;
  below = λ i here. absurd (omega arith);
  from_end = λ i past inside. absurd (omega arith);
  past = λ i past inside. absurd (omega arith);
  later = omega arith;
  halved = unprobed (length (g.R.KeyedRows.keys c.args.rows.now)) c.args.steps.now _ (omega arith);
}

pub halves-preserved-then-found-key : goal.halves-preserved-then-found-key
halves-preserved-then-found-key g c =
    let keys = g.R.KeyedRows.keys c.args.rows.now in
    record {
      from = omega arith;
      forward = omega arith;
      to = c.halves.invariant.to;
      within = c.halves.invariant.within;
      below = all_below keys c.args.key (c.halves.first + (c.halves.end - c.halves.first) / 2) c.key-found.result c.requires.sorted c.key-found.ensures.key
          (omega arith) (omega arith) c.if-found-key.true;
      from_end = c.halves.invariant.from_end;
      past = c.halves.invariant.past;
      later = omega arith;
      halved = probed _ _ _ _ _ _ c.halves.invariant.halved c.key-found.ensures.step (omega arith) (omega arith) (omega arith);
    }

pub halves-preserved-then-key-found : goal.halves-preserved-then-key-found
halves-preserved-then-key-found g c =
    let keys = g.R.KeyedRows.keys c.args.rows.now in
    let row = c.halves.first + (c.halves.end - c.halves.first) / 2 in
    record {
      from = omega arith;
      forward = omega arith;
      to = omega arith;
      within = omega arith;
      below = c.halves.invariant.below;
      from_end = all_above keys c.args.key row c.key-found.result c.requires.sorted c.key-found.ensures.key (omega arith) (omega arith) c.if-found-key.false;
      past = all_above keys (c.args.key + 1) row c.key-found.result c.requires.sorted c.key-found.ensures.key (omega arith) (omega arith) (omega arith);
      later = omega arith;
      halved = probed _ _ _ _ _ _ c.halves.invariant.halved c.key-found.ensures.step (omega arith) (omega arith) (omega arith);
    }

pub halves-preserved : goal.halves-preserved
halves-preserved g c =
    let keys = g.R.KeyedRows.keys c.args.rows.now in
    let row = c.halves.first + (c.halves.end - c.halves.first) / 2 in
    record {
      from = omega arith;
      forward = omega arith;
      to = c.halves.invariant.to;
      within = omega arith;
      below = c.halves.invariant.below;
      from_end = all_above keys c.args.key row c.key-found.result c.requires.sorted c.key-found.ensures.key (omega arith) (omega arith) c.if-found-key.false;
      past = c.halves.invariant.past;
      later = omega arith;
      halved = probed _ _ _ _ _ _ c.halves.invariant.halved c.key-found.ensures.step (omega arith) (omega arith) (omega arith);
    }

pub first_not_below-end-requires-clause-between : goal.first_not_below-end-requires-clause-between
first_not_below-end-requires-clause-between g c = record {
  from = c.halves.invariant.from;
  forward = omega arith;
  to = c.halves.invariant.to;
  below = λ i here. let h = c.halves.invariant.below i here in omega (arith, h);
  above = c.halves.invariant.past;
}

pub returns-clause-first : goal.returns-clause-first
returns-clause-first g c = record {
  from = c.halves.invariant.from;
  to = omega arith;
  below = c.halves.invariant.below;
  above = λ i past inside. c.halves.invariant.from_end i (omega arith) inside;
}

pub returns-clause-cost : goal.returns-clause-cost
returns-clause-cost g c =
    let h = within_digits (c.halves.steps - c.args.steps.now) (length (g.R.KeyedRows.keys c.args.rows.now)) c.halves.invariant.halved.cost in
    let cost = c.first_not_below-end.ensures.cost in
    omega (arith, h, cost)
