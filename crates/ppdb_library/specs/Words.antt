-- The words of a call, each ended by a zero byte.
use Rattle.std.specs.Prelude.{ℕ, ◌≡◌, ◌≢◌, ◌-◌, ◌<◌, ◌++◌, List, [], ◌∷◌, All, length, slice_index}

-- words one after the other, each with a zero byte after it
abbrev pub ended : List (List ℕ) → List ℕ
ended [] = []
ended (word ∷ words) = word ++ 0 ∷ ended words

-- These are the words of the bytes: each is ended by a zero byte, and has none.
pub record AreWords (bytes : List ℕ) (words : List (List ℕ)) : Type 0 where
  pub are : bytes ≡ ended words
  pub whole : All (λ word. All (λ byte. byte ≢ 0) word) words

-- the last of the bytes is a zero byte, where there is one
abbrev pub IsWhole : List ℕ → Type 0
IsWhole bytes = 0 < length bytes → slice_index bytes (length bytes - 1) ≡ 0
