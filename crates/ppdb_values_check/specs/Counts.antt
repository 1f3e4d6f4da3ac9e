-- Counts of rows as the code keeps them (ECMA-335 II.22).
use Rattle.std.specs.Prelude.{◌≡◌, ℕ, ◌-◌, ◌^◌, min}

-- A sum that stops at the largest number of 64 bits, which no row number reaches.
abbrev pub IsCapped : ℕ → ℕ → Type 0
IsCapped exact capped = capped ≡ min exact (2 ^ 64 - 1)
