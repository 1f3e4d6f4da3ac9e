use Rattle.std.proofs.Common.{ap, ◌∙◌}
use Rattle.ppdb_values_check.proofs.{Joined.{beside, first_no, customs_joined}, Listed.{answers}}
use Rattle.ppdb_values_check.proofs.customs.sound_customs.Goals as goal

pub returns-then-all_sound : goal.returns-then-all_sound
returns-then-all_sound c =
    answers (beside (c.all_sound.ensures.rows.0 c.if-all_sound.true) c.in_order.ensures)
    (customs_joined c.args.counted.now c.as_slice-customs.result.now (c.as_slice-customs.ensures ∙ ap (λ value. value.customs) c.value.ensures))

pub returns-else-all_sound : goal.returns-else-all_sound
returns-else-all_sound c =
    answers (first_no c.all_sound.result c.all_sound.ensures.rows c.if-all_sound.false)
    (customs_joined c.args.counted.now c.as_slice-customs.result.now (c.as_slice-customs.ensures ∙ ap (λ value. value.customs) c.value.ensures))
