use Rattle.std.{proofs.Common.{arith, ap, length}, specs.List.{flat_map}}
use Rattle.map_compose.{specs.Parts.{part_says, all_numbers}, proofs.Putting.{some_none, some_next, some_all}}
use Rattle.map_compose.proofs.methods.put_part.Goals as goal

pub methods-init : goal.methods-init
methods-init c = record {
  gathered = c.requires.gathered;
  puts = some_none c.args.text.now (flat_map (part_says c.args.part c.args.first.now c.args.second.now)
      (all_numbers c.args.part c.args.first.now c.args.second.now));
}

pub methods-preserved : goal.methods-preserved
methods-preserved c = record {
  gathered = c.in_ok-sum_up.ensures;
  puts = some_next _ _ _ _ _ _ (part_says c.args.part c.args.first.now c.args.second.now c.in-Some.method)
      (ap (flat_map (part_says c.args.part c.args.first.now c.args.second.now)) c.in-Some.ensures) c.methods.invariant.puts c.in_ok-put_method.ensures;
}

pub methods-smaller : goal.methods-smaller
methods-smaller c = let e = ap length c.in-Some.ensures in omega (arith, e)

pub returns-clause-puts : goal.returns-clause-puts
returns-clause-puts c = some_all _ _ _ _ (ap (flat_map (part_says c.args.part c.args.first.now c.args.second.now)) c.in_default.ensures)
    c.methods.invariant.puts

pub sum_up-requires : goal.sum_up-requires
sum_up-requires c = c.methods.invariant.gathered

pub put_method-requires-clause-gathered : goal.put_method-requires-clause-gathered
put_method-requires-clause-gathered c = c.in_ok-sum_up.ensures
