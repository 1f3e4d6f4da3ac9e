use Rattle.std.{proofs.Common.{map, take, length, ◌≤◌, ◌-◌}, specs.List.{filter_map}}
use Rattle.map_compose.specs.{Composed.{slot_entry, slot_sources}, Says.{PutsLines}}
use Rattle.map_compose.proofs.slots.put_images.Given as goal
use Rattle.ppdb_maps_text.proofs.Parts.{slot_says}

abbrev pub invariant-slots : goal.invariant-slots
invariant-slots l = record {
  within : l.index ≤ length (slot_sources l.first l.second l.method);
  puts : PutsLines l.fn.text l.text (map slot_says (filter_map (slot_entry l.first l.second l.method) (take l.index (slot_sources l.first l.second l.method))));
}

abbrev pub decreases-slots : goal.decreases-slots
decreases-slots l = length (slot_sources l.first l.second l.method) - l.index
