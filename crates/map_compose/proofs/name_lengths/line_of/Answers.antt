use Rattle.std.proofs.Common.{arith, sym, ap, subst, drop, Some, ◌≡◌, ◌∙◌, ◌+◌, ◌-◌, ◌/◌}
use Rattle.map_compose.{specs.Composed.{named}, proofs.NameLengths.{Beyond, name_there, below_middle, beyond_middle, no_line}, proofs.Names.{same_name}}
use Rattle.map_compose.proofs.name_lengths.line_of.Goals as goal

pub halves-preserved-in-Less : goal.halves-preserved-in-Less
halves-preserved-in-Less c = record {
  order = let less = c.halves-test.true in omega (arith, less);
  within = c.halves.invariant.within;
  below = below_middle c.args.name.now c.in_ok-old.old.now (named c.args.map.now) (c.halves.low + (c.halves.high - c.halves.low) / 2)
      c.facts.ensures.ascends.documents (name_there c.args.map.now _ _ _ (sym c.in_ok-old.ensures)) (sym c.in-Less.ensures);
  beyond = c.halves.invariant.beyond;
}

pub returns-in-Equal : goal.returns-in-Equal
returns-in-Equal c = name_there c.args.map.now _ _ _ (sym c.in_ok-old.ensures) ∙ ap Some (same_name c.in_ok-old.old.now c.args.name.now (sym c.in-Equal.ensures))

pub halves-preserved : goal.halves-preserved
halves-preserved c = record {
  order = omega arith;
  within = let less = c.halves-test.true in let within = c.halves.invariant.within in omega (arith, less, within);
  below = c.halves.invariant.below;
  beyond = beyond_middle c.args.name.now c.in_ok-old.old.now (named c.args.map.now) (c.halves.low + (c.halves.high - c.halves.low) / 2)
      c.facts.ensures.ascends.documents (name_there c.args.map.now _ _ _ (sym c.in_ok-old.ensures)) (sym c.in-Greater.ensures);
}

pub returns : goal.returns
returns c =
    let order = c.halves.invariant.order in
    let over = c.halves-test.false in
    let same : c.halves.high ≡ c.halves.low = omega (arith, order, over) in
    no_line c.args.map.now c.args.name.now c.halves.low c.halves.invariant.below
    (subst (λ k. Beyond c.args.name.now (drop k (named c.args.map.now))) same c.halves.invariant.beyond)
