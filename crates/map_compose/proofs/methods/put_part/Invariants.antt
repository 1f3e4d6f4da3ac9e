use Rattle.std.{proofs.Common.{length}, specs.List.{flat_map}}
use Rattle.map_compose.{specs.Gathered.{IsGatheredOf}, specs.Parts.{part_says, all_numbers, numbers_left}, proofs.Putting.{PutSome}}
use Rattle.map_compose.proofs.methods.put_part.Given as goal

abbrev pub invariant-methods : goal.invariant-methods
invariant-methods l = record {
  gathered : IsGatheredOf l.gathered l.second;
  puts : PutSome l.fn.text l.text (flat_map (part_says l.part l.first l.second) (all_numbers l.part l.first l.second))
      (flat_map (part_says l.part l.first l.second) (numbers_left l.part l.first l.second l.passed));
}

abbrev pub decreases-methods : goal.decreases-methods
decreases-methods l = length (numbers_left l.part l.first l.second l.passed)
