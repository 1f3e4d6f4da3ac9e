-- How many rows the tables of a debug file have (Portable PDB v1.0, "Metadata Tables").
use Rattle.std.specs.{Prelude.{ℕ, ◌+◌, length, sum, map}, List.range_with_len}
use Rattle.ppdb_tables.specs.RawTables.{RawTables, count}

-- the rows of the tables 30 to 37
abbrev pub row_total : RawTables → ℕ
row_total raw = sum (map (count raw) (range_with_len 0x30 8))

-- the rows of LocalScope, and those of what scopes own
abbrev pub scope_total : RawTables → ℕ
scope_total raw = length raw.scopes + (length raw.variables + length raw.constants)
