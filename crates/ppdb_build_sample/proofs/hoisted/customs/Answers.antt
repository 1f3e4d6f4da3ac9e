use Rattle.std.proofs.{Common.{◌+◌, ◌%◌, ◌∙◌}, lemmas.Bool.{eq-eqb, ne_eqb}}
use Rattle.ppdb_build_sample.{specs.Sample.{sample_custom}, proofs.Annotated.{is_fourth}, proofs.Counting.{none_more, passes_more}}
use Rattle.ppdb_build_sample.proofs.hoisted.customs.Goals as goal
use Rattle.ppdb_build_sample.proofs.hoisted.customs.Goals.{then-before-eq0+in_ok-hoisted+in_ok-push, else-before-eq0}

pub loop-before-preserved : goal.loop-before-preserved
loop-before-preserved c =
    let i = c.loop-before.before in
    elim c.if-before-eq0.branch [
      | then-before-eq0+in_ok-hoisted+in_ok-push w ↦
          passes_more sample_custom is_fourth i c.loop-before.customs c.if-before-eq0.customs w.in_ok-hoisted.field-0
          (eq-eqb ((i + 1) % 4) 0 w.if-before-eq0.true) c.loop-before.invariant w.in_ok-hoisted.ensures (w.customs-is ∙ w.in_ok-push.ensures.ok)
      | else-before-eq0 w ↦
          w.customs-is
          ∙ none_more sample_custom is_fourth i c.loop-before.customs (ne_eqb ((i + 1) % 4) 0 w.if-before-eq0.false) c.loop-before.invariant
    ]
