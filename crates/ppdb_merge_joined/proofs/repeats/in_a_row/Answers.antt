use Rattle.std.proofs.Common.{List, ◌++◌, sym, ap, ◌∙◌}
use Rattle.ppdb_merge_joined.proofs.Placed.{flat_append}
use Rattle.ppdb_merge_joined.proofs.repeats.in_a_row.Goals as goal

pub loop-input-preserved : goal.loop-input-preserved
loop-input-preserved g c =
    c.in_ok-move_all.ensures ∙ ap (λ l. l ++ c.in-Some.input) c.loop-input.invariant
    ∙ sym (flat_append (λ (l : List g.row.T.Denot). l) c.loop-input.yielded c.in-Some.input)
