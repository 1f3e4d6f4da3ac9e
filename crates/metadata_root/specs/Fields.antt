-- The numbers of the fields.
use Rattle.std.specs.Prelude.{ℕ, List, drop}
use Rattle.byteorder.specs.Endian.{little_number}

-- the number in len bytes at a place, the lowest byte first (ECMA-335 II.24.2: little-endian)
unfoldable pub number_at : List ℕ → ℕ → ℕ → ℕ
number_at file at len = little_number len (drop at file)
