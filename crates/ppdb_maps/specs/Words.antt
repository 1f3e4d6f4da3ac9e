-- The lines of a map text, and the words of a line (docs/FORMAT.md, "Map texts").
use Rattle.std.specs.{Prelude.{◌≡◌, ℕ, ◌==◌, List, [], ◌∷◌}, List.slice_split, Str.Lines.lines}

-- lines end by LF or CR LF, and the last end may be missing; the empty text has one empty line
abbrev pub text_lines : List ℕ → List (List ℕ)
text_lines [] = [] ∷ []
text_lines (b ∷ bs) = lines (b ∷ bs)

-- words stand apart by one space
abbrev pub line_words : List ℕ → List (List ℕ)
line_words line = slice_split (λ b. b == 32) line

-- an empty line or a comment
abbrev pub IsSilent : List ℕ → Type 0
IsSilent [] = Unit {0}
IsSilent (b ∷ bs) = b ≡ 35
