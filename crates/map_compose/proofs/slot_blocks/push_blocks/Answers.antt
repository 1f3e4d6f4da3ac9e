use Rattle.std.proofs.Common.{arith, sym, ap, ◌∙◌, ◌<◌, length, map}
use Rattle.map_compose.{specs.declared.part.Part.TheVariants.{Slots}, specs.Slots.{block_of}, proofs.Merging.{few_own}, proofs.Putting.{within, take_past}}
use Rattle.map_compose.proofs.SlotLines.{blocks_next}
use Rattle.map_compose.proofs.slot_blocks.push_blocks.Goals as goal

pub methods-init : goal.methods-init
methods-init c = record { within = omega arith; blocks = c.requires }

pub overflow_add-index : goal.overflow_add-index
overflow_add-index c =
    let inside : c.methods.index < length c.args.map.now.slotted = within _ c.methods.index c.in-Some.method (sym c.in-Some.ensures) in
    let most = few_own Slots c.args.map.now c.facts.ensures in
    omega (arith, inside, most)

pub methods-smaller : goal.methods-smaller
methods-smaller c =
    let inside : c.methods.index < length c.args.map.now.slotted = within _ c.methods.index c.in-Some.method (sym c.in-Some.ensures) in
    omega (arith, inside)

pub methods-preserved : goal.methods-preserved
methods-preserved c =
    let inside : c.methods.index < length c.args.map.now.slotted = within _ c.methods.index c.in-Some.method (sym c.in-Some.ensures) in
    record {
      within = omega (arith, inside);
      blocks = blocks_next c.args.map.now c.methods.index c.in-Some.method c.block_of.result _ _ (sym c.in-Some.ensures) c.methods.invariant.blocks
          c.block_of.ensures c.in_ok-push.ensures.items;
    }

pub returns : goal.returns
returns c = c.methods.invariant.blocks
    ∙ ap (map (block_of c.args.map.now)) (take_past c.args.map.now.slotted c.methods.index (sym c.in_default.ensures))
