use Rattle.custom_info.proofs.SlotsLeft.{slots_left-reads}
use Rattle.custom_info.proofs.slots.SlotCursor.new.Goals as goal

pub returns : goal.returns
returns c = slots_left-reads c.args.blob.now
