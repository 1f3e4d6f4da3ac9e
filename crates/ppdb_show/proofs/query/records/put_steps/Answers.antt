use Rattle.std.{proofs.Common.{arith, ◌∙◌, ap, sym}, specs.Prelude.{Option, Ok}}
use Rattle.custom_info.specs.{declared.stepping.AsyncStep.{AsyncStep}, AsyncStepping.{Stepping}}
use Rattle.ppdb_show.{specs.Query.{step_line}, proofs.Added.{walk_next, walk_done, adds_same, lines_each}, proofs.Given.{answer_next, answer_end}}
use Rattle.ppdb_show.proofs.query.records.put_steps.Goals as goal

pub steps-preserved : goal.steps-preserved
steps-preserved c = record {
  whole = ap (λ (s : Stepping). s.left.fault) c.next.ensures.left ∙ c.steps.invariant.whole;
  walk = walk_next _ _ _ _ _ c.in-Ok-Some.step _ _ _ _ _ _ c.steps.invariant.walk
      (answer_next c.steps.cursor.left c.next.new.self.left.items c.in-Ok-Some.step
      (sym (c.in-Ok-Some.is ∙ ap (λ (o : Option AsyncStep). Ok o) c.in-Ok-Some.field-0-is) ∙ c.next.ensures.answer)
      (ap (λ (s : Stepping). s.left.items) c.next.ensures.left))
      c.in_ok-put_step-in-Ok-Some.ensures (omega arith);
}

pub returns-in-Ok-None : goal.returns-in-Ok-None
returns-in-Ok-None c =
    adds_same c.args.printer.form _ _ _ _ (lines_each step_line c.args.cursor.now.left.items)
    (walk_done _ _ _ _ _ _ _ _ c.steps.invariant.walk
    (answer_end c.steps.cursor.left.items c.steps.cursor.left.fault (sym (c.in-Ok-None.is ∙ ap (λ (o : Option AsyncStep). Ok o) c.in-Ok-None.field-0-is)
    ∙ c.next.ensures.answer)))
