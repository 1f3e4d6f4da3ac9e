use Rattle.std.{proofs.Common.{◌≡◌, sym, ap, ◌∙◌, subst, slice_get}, specs.Prelude.{All}, specs.List.{filter_map}}
use Rattle.ppdb_merge_fits.{specs.declared.used.UsedSlot.{UsedSlot}, specs.Slots.{used, slot_twice}, proofs.Kept.{none_twice_once}}
use Rattle.ppdb_merge_fits.proofs.slots.first_slot_twice.Goals as goal

pub returns-then-all_keep_numbers : goal.returns-then-all_keep_numbers
returns-then-all_keep_numbers c =
    sym (ap (λ l. slice_get l 0) (none_twice_once (λ (u : UsedSlot). u.method) (λ u. u.slot) (λ u. u.image) slot_twice
    (filter_map (used c.args.map.now) c.args.slots.now)
    (subst (All (λ (u : UsedSlot). u.image ≡ u.slot)) (c.as_slice.ensures.value ∙ c.in_ok-all.ensures)
    (c.all_keep_numbers.ensures.0 c.if-all_keep_numbers.true))))
