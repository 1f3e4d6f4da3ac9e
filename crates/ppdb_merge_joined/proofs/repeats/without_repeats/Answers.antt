use Rattle.std.proofs.{Common.{◌≡◌, [], ap, ◌∙◌}, lemmas.Result.{IfOk-weaker}}
use Rattle.ppdb_merge_joined.{specs.Repeats.{kept_by, marks_after, unrepeated}, proofs.Marked.{marks_keep}}
use Rattle.ppdb_merge_joined.proofs.repeats.without_repeats.Goals as goal

pub returns : goal.returns
returns g c =
    let as_record = g.T.Recorded.as_record in
    let marks = c.as_slice-2.ensures.value ∙ c.in_ok-marks.ensures ∙ ap (marks_after as_record []) c.as_slice.ensures in
    IfOk-weaker c.marked.result (λ left. left ≡ kept_by c.as_slice-2.result.now c.in_ok-items.items) (λ left. left ≡ unrepeated as_record [] c.args.inputs)
    (λ left is. is ∙ ap (λ m. kept_by m c.in_ok-items.items) marks ∙ ap (kept_by (marks_after as_record [] c.args.inputs)) c.in_ok-items.ensures
    ∙ marks_keep as_record [] c.args.inputs) c.marked.ensures
