use Rattle.std.proofs.Common.{ap, ◌∙◌}
use Rattle.ppdb_values_check.proofs.{Joined.{machines_joined, ok_last}, Listed.{refuted, says_no}}
use Rattle.ppdb_values_check.proofs.machines.sound_machines.Goals as goal

pub returns-then-not-in_order : goal.returns-then-not-in_order
returns-then-not-in_order c =
    let same = machines_joined c.args.counted.now c.as_slice-machines.result.now (c.as_slice-machines.ensures ∙ ap (λ value. value.machines) c.value.ensures) in
    says_no (λ sound. refuted c.in_order.result c.in_order.ensures c.if-not-in_order.true (same.1 sound).1.0)

pub returns : goal.returns
returns c =
    let same = machines_joined c.args.counted.now c.as_slice-machines.result.now (c.as_slice-machines.ensures ∙ ap (λ value. value.machines) c.value.ensures) in
    let each = c.all_sound.ensures.rows.0 c.if-not-all_sound.false in
    let ordered = c.in_order.ensures.0 c.if-not-in_order.false in
    ok_last c.numbers_differ.result each ordered c.numbers_differ.ensures same
