use Rattle.std.proofs.Common.{◌≡◌, ◌≤◌, ◌*◌, ◌-◌, take, length}
use Rattle.ppdb_maps.specs.Map.{slots_of}
use Rattle.map_compose.specs.Slots.{slot_digits}
use Rattle.map_compose.proofs.slot_blocks.block_of.Given as goal

abbrev pub invariant-slots : goal.invariant-slots
invariant-slots l = record {
  within : l.slots ≤ length (slots_of l.map l.method);
  digits : l.digits ≡ slot_digits (take l.slots (slots_of l.map l.method));
  few : l.digits ≤ 20 * l.slots;
}

abbrev pub decreases-slots : goal.decreases-slots
decreases-slots l = length (slots_of l.map l.method) - l.slots
