use Rattle.std.{proofs.Common.{sym, ◌∙◌, ap, ◌++◌, get_or}, specs.Option.{option_to_list}}
use Rattle.ppdb_merge_fits.{specs.Slots.{used}, proofs.First.{filter_next, there}}
use Rattle.ppdb_merge_fits.proofs.slots.used_slots.Goals as goal

pub loop-x-preserved : goal.loop-x-preserved
loop-x-preserved c =
    let x = get_or c.args.slots.now c.loop-x.x-index (record { method = 0; slot = 0 }) in
    c.in_ok-add_used.ensures ∙ ap (λ l. l ++ option_to_list (used c.args.map.now x)) c.loop-x.invariant
    ∙ sym (filter_next (used c.args.map.now) c.args.slots.now c.loop-x.x-index x c.loop-x-test.true
    (there c.args.slots.now c.loop-x.x-index _ x c.loop-x-test.true))
