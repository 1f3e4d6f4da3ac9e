use Rattle.custom_info.proofs.WrittenSlots.{written_slots}
use Rattle.custom_info.proofs.laws.written_slots_are_read.Goals as goal

pub returns : goal.returns
returns c = λ slots h. written_slots slots h
