-- How long the names of `document` lines are, as lines spell them.
use Rattle.std.specs.Prelude.{◌≡◌, ◌⊎◌, ℕ, List, [], map, length}
use Rattle.ppdb_base.specs.Escaped.{escaped}
use Rattle.ppdb_maps.specs.{declared.entries.NameLine.NameLine, Map.Map}
use Rattle.map_compose.specs.declared.name_lengths.NameLengths.{NameLengths}

abbrev pub spelled_length : List ℕ → ℕ
spelled_length name = length (escaped name)

-- how many bytes the NEW of each `document` line has as it is spelled
abbrev pub new_lengths : Map → List ℕ
new_lengths m = map (λ (d : NameLine). spelled_length d.new) m.documents

-- no new name is counted yet, or that of each `document` line is
pub record AreLengthsOf (names : NameLengths) (m : Map) : Type 0 where
  pub are : (names.lengths.items ≡ []) ⊎ (names.lengths.items ≡ new_lengths m)
