use Rattle.std.proofs.Common.{ap, ◌∙◌}
use Rattle.ppdb_values_check.proofs.{Joined.{scopes_joined, ok_scopes}, Listed.{refuted, says_no}}
use Rattle.ppdb_values_check.proofs.scopes.sound_scopes.Goals as goal

pub returns-then-not-all_sound : goal.returns-then-not-all_sound
returns-then-not-all_sound c =
    let same = scopes_joined c.args.counted.now c.as_slice-scopes.result.now (c.as_slice-scopes.ensures ∙ ap (λ value. value.scopes) c.value.ensures) in
    says_no (λ sound. refuted c.all_sound.result c.all_sound.ensures.rows c.if-not-all_sound.true (same.1 sound).0)

pub returns-then-not-in_order : goal.returns-then-not-in_order
returns-then-not-in_order c =
    let same = scopes_joined c.args.counted.now c.as_slice-scopes.result.now (c.as_slice-scopes.ensures ∙ ap (λ value. value.scopes) c.value.ensures) in
    says_no (λ sound. refuted c.in_order.result c.in_order.ensures c.if-not-in_order.true (same.1 sound).1.0)

pub returns-then-not-branch : goal.returns-then-not-branch
returns-then-not-branch c =
    let same = scopes_joined c.args.counted.now c.as_slice-scopes.result.now (c.as_slice-scopes.ensures ∙ ap (λ value. value.scopes) c.value.ensures) in
    says_no (λ sound. refuted c.in_ok-are_nested.field-0 c.in_ok-are_nested.ensures c.if-not-branch.true (same.1 sound).1.1.0)

pub returns : goal.returns
returns c =
    let same = scopes_joined c.args.counted.now c.as_slice-scopes.result.now (c.as_slice-scopes.ensures ∙ ap (λ value. value.scopes) c.value.ensures) in
    ok_scopes c.args.counted.now c.as_slice-scopes.result.now c.have_distinct_items.result (c.all_sound.ensures.rows.0 c.if-not-all_sound.false)
    (c.in_order.ensures.0 c.if-not-in_order.false) (c.in_ok-are_nested.ensures.0 c.if-not-branch.false) c.have_distinct_items.ensures same
