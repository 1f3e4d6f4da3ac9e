use Rattle.std.proofs.Common.{arith, sym, subst, length, ◌<◌, ◌≤◌}
use Rattle.map_compose.{specs.Composed.{slot_sources}, specs.Says.{PutsLines, slot_image_says}, proofs.Following.{slot_follows}, proofs.Bounds.{few_slots}}
use Rattle.map_compose.proofs.{Making.{slot_within, slots_next, slots_done}, Putting.{says_none}}
use Rattle.map_compose.proofs.slots.put_images.Goals as goal

pub slots-init : goal.slots-init
slots-init c = record { within = omega arith; puts = says_none c.args.text.now }

pub overflow_add-index : goal.overflow_add-index
overflow_add-index c =
    let inside : c.slots.index < length (slot_sources c.args.first.now c.args.second.now c.args.method) = slot_within _ _ _ (sym c.in-Some.ensures) in
    let most : length (slot_sources c.args.first.now c.args.second.now c.args.method) ≤ 65536 = few_slots _ _ _ c.facts.ensures c.facts-2.ensures in
    omega arith

pub slots-smaller : goal.slots-smaller
slots-smaller c =
    let inside : c.slots.index < length (slot_sources c.args.first.now c.args.second.now c.args.method) = slot_within _ _ _ (sym c.in-Some.ensures) in
    omega arith

pub slots-preserved : goal.slots-preserved
slots-preserved c =
    let inside : c.slots.index < length (slot_sources c.args.first.now c.args.second.now c.args.method) = slot_within _ _ _ (sym c.in-Some.ensures) in
    record {
      within = omega arith;
      puts = slots_next c.args.first.now c.args.second.now c.args.method
          (slot_sources c.args.first.now c.args.second.now c.args.method) c.slots.index c.in-Some.old _ _ _ (sym c.in-Some.ensures) c.slots.invariant.puts
          (subst (λ o. PutsLines c.slots.text c.put_image.new.text (slot_image_says c.args.method c.in-Some.old o))
          (sym (slot_follows c.args.first.now c.args.second.now c.args.method c.args.image c.in-Some.old c.requires)) c.in_ok-put_image.ensures);
    }

pub returns : goal.returns
returns c = slots_done c.args.first.now c.args.second.now c.args.method (slot_sources c.args.first.now c.args.second.now c.args.method) c.slots.index _ _
    (sym c.in_default.ensures) c.slots.invariant.puts
