use Rattle.std.proofs.Common.{subst}
use Rattle.ppdb_maps.specs.declared.line.Line.TheVariants.{Slot}
use Rattle.map_compose.{specs.Says.{PutsLines, slot_image_says}, proofs.Putting.{says_none, says_one, ok_then}}
use Rattle.map_compose.proofs.slots.put_image.Goals as goal

pub returns-in-None : goal.returns-in-None
returns-in-None c = subst (λ o. PutsLines c.args.text.now c.args.text.now (slot_image_says c.args.method c.args.old o)) c.in-None.ensures
    (says_none c.args.text.now)

pub returns-in-Some : goal.returns-in-Some
returns-in-Some c = ok_then c.put_slot.result
    (λ h. subst (λ o. PutsLines c.args.text.now c.put_slot.new.self (slot_image_says c.args.method c.args.old o)) c.in-Some.ensures
    (says_one c.args.text.now c.put_slot.new.self (Slot c.args.method c.args.old c.in-Some.new) h)) c.put_slot.ensures
