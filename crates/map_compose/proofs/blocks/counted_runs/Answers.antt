use Rattle.std.proofs.Common.{arith}
use Rattle.map_compose.proofs.{Gathering.{few_runs}, Digits.{few_old}, Insides.{inside_small}, Sums.{few_new, lines_length}}
use Rattle.map_compose.proofs.blocks.counted_runs.Goals as goal

pub returns : goal.returns
returns c =
    let is = lines_length c.args.run c.args.others.now in
    let digits = c.requires.digits in
    let old = c.old_digits.ensures in
    omega (arith, is, digits, old)

pub overflow_add-result : goal.overflow_add-result
overflow_add-result c =
    let few = few_runs c.args.others.now c.requires.rise in
    let old = few_old c.args.run c.args.others.now (inside_small c.args.run c.args.others.now c.requires.run c.requires.inside) in
    let is = c.old_digits.ensures in
    omega (arith, few, old, is)

pub overflow_add-result-2 : goal.overflow_add-result-2
overflow_add-result-2 c =
    let few = few_runs c.args.others.now c.requires.rise in
    let old = few_old c.args.run c.args.others.now (inside_small c.args.run c.args.others.now c.requires.run c.requires.inside) in
    let new = few_new c.args.others.now c.requires.rise.short in
    let is = c.old_digits.ensures in
    let digits = c.requires.digits in
    omega (arith, few, old, new, is, digits)
