-- How decimal numbers below 2^32, and hexadecimal digits, are spelled.
use Rattle.std.specs.Prelude.{◌≡◌, ℕ, ◌+◌, ◌<◌, ◌≤◌, ◌⊎◌, ◌≢◌, List, [], ◌∷◌, length}

-- one to ten characters, and no zero before others
abbrev pub MaySpell : List ℕ → Type 0
MaySpell [] = ⊥
MaySpell (b ∷ []) = Unit {0}
MaySpell (b ∷ c ∷ cs) = (b ≢ 48) × (length (b ∷ c ∷ cs) ≤ 10)

-- a hexadecimal digit in either case: 0 is 48, a is 97, A is 65
abbrev pub IsHexDigit : ℕ → ℕ → Type 0
IsHexDigit c d = ((d < 10) × (c ≡ 48 + d)) ⊎ ((10 ≤ d) × (d < 16) × ((c ≡ 87 + d) ⊎ (c ≡ 55 + d)))
