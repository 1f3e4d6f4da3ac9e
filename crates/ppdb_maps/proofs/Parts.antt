-- Names of parts of what a map says.
use Rattle.std.specs.{Prelude.{ℕ, ◌+◌, ◌-◌, Option}, Option.{option_map_or}}
use Rattle.ppdb_base.specs.Offsets.{Offsets, every, lined}
use Rattle.ppdb_maps.specs.{declared.entries.RowLine.{RowLine}, Map.{MethodLine}}

abbrev pub line_offsets : Option MethodLine → Offsets
line_offsets line = option_map_or (λ line. lined line.runs line.old_size line.new_size) line every

abbrev pub sample_row : ℕ → ℕ → RowLine
sample_row n i = record { table = 0x06; old = i; new = n + 1 - i }
