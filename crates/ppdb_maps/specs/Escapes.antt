-- The digits of an escaped byte.
use Rattle.std.specs.Prelude.{◌≡◌, ℕ, ◌+◌, ◌<◌, ◌≤◌, ◌⊎◌}

-- a lower-case hexadecimal digit: 0 is 48, a is 97
abbrev pub IsLowerDigit : ℕ → ℕ → Type 0
IsLowerDigit c d = ((d < 10) × (c ≡ 48 + d)) ⊎ ((10 ≤ d) × (d < 16) × (c ≡ 87 + d))
