use Rattle.std.proofs.Common.{sym, ap, length, ◌∙◌}
use Rattle.ppdb_maps.specs.Map.{slots_of}
use Rattle.map_compose.{specs.Says.{lines_text, slot_images}, proofs.Insides.{lines_counted}, proofs.SlotLines.{taken, images_taken}}
use Rattle.map_compose.proofs.slots.put_block.Goals as goal

pub bytes-requires : goal.bytes-requires
bytes-requires c =
    (taken c.args.second.now c.args.image c.args.blocks.now c.in-Some.block c.facts.ensures c.requires.blocks
    (c.in-Some.ensures c.args.second.now c.facts.ensures c.requires.blocks)).small

pub returns-in-Some : goal.returns-in-Some
returns-in-Some c =
    let all = taken c.args.second.now c.args.image c.args.blocks.now c.in-Some.block c.facts.ensures c.requires.blocks
    (c.in-Some.ensures c.args.second.now c.facts.ensures c.requires.blocks) in
    lines_counted _ _ (slot_images c.args.first.now c.args.second.now c.args.method) c.bytes.result c.count_on.ensures
    (c.bytes.ensures (slots_of c.args.second.now c.args.image) (sym all.slots) (sym all.digits)
    ∙ ap (λ xs. length (lines_text xs))
    (images_taken c.args.first.now c.args.second.now c.args.method c.args.image c.facts.ensures c.requires.image
    (sym c.has_slots.ensures ∙ c.if-has_slots.false) all.lines))
