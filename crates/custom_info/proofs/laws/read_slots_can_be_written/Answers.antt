use Rattle.custom_info.proofs.ReadSlots.{read_slots}
use Rattle.custom_info.proofs.laws.read_slots_can_be_written.Goals as goal

pub returns : goal.returns
returns c = λ blob slots fault r. read_slots blob slots fault r
