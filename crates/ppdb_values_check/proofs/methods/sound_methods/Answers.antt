use Rattle.std.proofs.Common.{ap, ◌∙◌}
use Rattle.ppdb_values_check.proofs.{Joined.{beside, first_no, methods_joined}, Listed.{answers}}
use Rattle.ppdb_values_check.proofs.methods.sound_methods.Goals as goal

pub returns-then-all_sound : goal.returns-then-all_sound
returns-then-all_sound c =
    answers (beside (c.all_sound.ensures.rows.0 c.if-all_sound.true) c.in_order.ensures)
    (methods_joined c.args.counted.now c.as_slice-methods.result.now (c.as_slice-methods.ensures ∙ ap (λ value. value.methods) c.value.ensures))

pub returns-else-all_sound : goal.returns-else-all_sound
returns-else-all_sound c =
    answers (first_no c.all_sound.result c.all_sound.ensures.rows c.if-all_sound.false)
    (methods_joined c.args.counted.now c.as_slice-methods.result.now (c.as_slice-methods.ensures ∙ ap (λ value. value.methods) c.value.ensures))
