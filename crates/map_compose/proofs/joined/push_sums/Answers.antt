use Rattle.std.proofs.Common.{arith, refl, ap, ◌∙◌}
use Rattle.map_compose.{specs.Lengths.{sums_from}, proofs.Sums.{sums_next, digits_next}, proofs.Putting.{take_over}}
use Rattle.map_compose.proofs.joined.push_sums.Goals as goal

pub runs-init : goal.runs-init
runs-init c = record { sums = c.requires.empty; sum = refl; few = omega arith }

pub overflow_add-sum : goal.overflow_add-sum
overflow_add-sum c =
    let one = c.digits_of.ensures.few in
    let two = c.digits_of-in-runs.ensures.few in
    let sum = c.runs.invariant.few in
    let few = c.requires.few in
    omega (arith, one, two, sum, few)

pub runs-preserved : goal.runs-preserved
runs-preserved c =
    let one = c.digits_of.ensures in
    let two = c.digits_of-in-runs.ensures in
    let sum = c.runs.invariant.few in
    record {
      sums = sums_next c.args.runs.now c.runs.run-index c.runs.sums.items _ c.runs.sum (omega arith) c.runs.invariant.sums c.runs.invariant.sum
          c.in_ok-push.ensures.items;
      sum = digits_next c.args.runs.now c.runs.run-index _ c.runs.sum _ _ (omega arith) c.runs.invariant.sum one.digits two.digits;
      few = omega (arith, one.few, two.few, sum);
    }

pub returns : goal.returns
returns c = c.runs.invariant.sums ∙ ap (sums_from 0) (take_over c.args.runs.now c.runs.run-index (omega arith))
