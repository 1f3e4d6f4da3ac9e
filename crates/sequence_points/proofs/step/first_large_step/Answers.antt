use Rattle.std.proofs.{Common.{refl, sym, ap, ◌∙◌, take, arith}, lemmas.List.{drop_all}}
use Rattle.sequence_points.{specs.Written.{first_of, large_steps}, proofs.Before.{step_none, step_some, start_next}}
use Rattle.sequence_points.proofs.step.first_large_step.Goals as goal

pub loop-i-init : goal.loop-i-init
loop-i-init c = record { start = refl; left = refl }

pub loop-i-preserved : goal.loop-i-preserved
loop-i-preserved c = record {
  start = c.start_after-start.ensures ∙ start_next c.args.points.now c.loop-i.i _ c.loop-i.start c.loop-i-test.true c.loop-i.invariant.start;
  left = c.loop-i.invariant.left ∙ step_none c.args.points.now c.loop-i.i _ c.loop-i.start c.loop-i-test.true c.loop-i.invariant.start (sym c.step_at.ensures
      ∙ c.in_default.is);
}

pub returns-in-Some : goal.returns-in-Some
returns-in-Some c =
    sym (ap first_of c.loop-i.invariant.left
    ∙ step_some c.args.points.now c.loop-i.i _ c.loop-i.start c.in-Some.step c.loop-i-test.true c.loop-i.invariant.start (sym c.step_at.ensures
    ∙ c.in-Some.is))

pub returns : goal.returns
returns c =
    sym (ap first_of (c.loop-i.invariant.left ∙ ap (large_steps (take c.loop-i.i c.args.points.now)) (drop_all c.loop-i.i c.args.points.now (omega arith))))
