use Rattle.std.proofs.{Common.{arith, refl, sym, ap, ◌∙◌, ◌≡◌, ◌^◌, ◌*◌, add-one}, Math.Nat.{pow-le-pow_right, pow-suc}}
use Rattle.map_compose.{proofs.Gathering.{few_runs}, specs.Lengths.{not_less}, proofs.Digits.{capped, capped_one, capped_next, capped_all, capped_few, few_less}}
use Rattle.map_compose.proofs.Insides.{inside_small}
use Rattle.map_compose.proofs.blocks.old_digits.Goals as goal

pub least-init : goal.least-init
least-init c = record {
  power = refl;
  digits = sym (capped_one c.args.run c.args.others.now (inside_small c.args.run c.args.others.now c.requires.run c.requires.inside));
}

pub not_less-digits-requires-clause-least : goal.not_less-digits-requires-clause-least
not_less-digits-requires-clause-least c =
    let few = pow-le-pow_right {n = 10} (omega arith) {i = c.least._power} {j = 9} (omega arith) in
    let is = c.least.invariant.power in
    omega (arith, few, is)

pub overflow_add-digits : goal.overflow_add-digits
overflow_add-digits c =
    let is = c.least.invariant.digits in
    let most = capped_few c.args.run c.least._power c.args.others.now (omega arith) in
    let less = few_less c.args.run c.least.least c.args.others.now in
    let more = c.not_less-digits.ensures in
    let few = few_runs c.args.others.now c.requires.rise in
    omega (arith, is, most, less, more, few)

pub overflow_mul-least : goal.overflow_mul-least
overflow_mul-least c =
    let few = pow-le-pow_right {n = 10} (omega arith) {i = c.least._power} {j = 9} (omega arith) in
    let is = c.least.invariant.power in
    omega (arith, few, is)

pub least-preserved : goal.least-preserved
least-preserved c =
    let next = capped_next c.args.run c.least._power c.args.others.now (omega arith)
    (inside_small c.args.run c.args.others.now c.requires.run c.requires.inside) in
    let count = ap (λ n. not_less c.args.run n c.args.others.now) c.least.invariant.power in
    record {
      power = ap (λ n. n * 10) c.least.invariant.power ∙ sym (pow-suc 10 c.least._power) ∙ ap (λ n. 10 ^ n) (sym (add-one c.least._power));
      digits =
          let more = c.not_less-digits.ensures in
          let is = c.least.invariant.digits in
          omega (arith, next, count, more, is);
    }

pub returns : goal.returns
returns c =
    let all : c.least._power ≡ 10 = omega arith in
    c.least.invariant.digits ∙ ap (λ n. capped c.args.run n c.args.others.now) all
    ∙ capped_all c.args.run c.args.others.now (inside_small c.args.run c.args.others.now c.requires.run c.requires.inside)
