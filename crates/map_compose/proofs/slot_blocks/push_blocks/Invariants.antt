use Rattle.std.proofs.Common.{◌≡◌, ◌≤◌, ◌-◌, map, take, length}
use Rattle.map_compose.specs.Slots.{block_of}
use Rattle.map_compose.proofs.slot_blocks.push_blocks.Given as goal

abbrev pub invariant-methods : goal.invariant-methods
invariant-methods l = record {
  within : l.index ≤ length l.map.slotted;
  blocks : l.blocks.items ≡ map (block_of l.map) (take l.index l.map.slotted);
}

abbrev pub decreases-methods : goal.decreases-methods
decreases-methods l = length l.map.slotted - l.index
