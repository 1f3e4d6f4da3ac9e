use Rattle.std.proofs.Common.{◌≡◌, ◌≤◌, ◌-◌, map, take, length}
use Rattle.ppdb_maps.specs.declared.entries.NameLine.{NameLine}
use Rattle.map_compose.specs.Spelled.{spelled_length}
use Rattle.map_compose.proofs.name_lengths.push_lengths.Given as goal

abbrev pub invariant-lines : goal.invariant-lines
invariant-lines l = record {
  within : l.index ≤ length l.map.documents;
  lengths : l.lengths.items ≡ map (λ (d : NameLine). spelled_length d.new) (take l.index l.map.documents);
}

abbrev pub decreases-lines : goal.decreases-lines
decreases-lines l = length l.map.documents - l.index
