-- Pieces of lines of text. A piece that has a name of its own is put by a function of its own.
use Rattle.std.specs.{Prelude.{ℕ, ℤ, List, [], ◌∷◌, ◌++◌, decimal}, Fmt.signed_decimal}
use Rattle.ppdb_show_lines.specs.Values.{table_text}

-- a line of words
abbrev pub line : List ℕ → List ℕ
line text = text ++ 10 ∷ []

-- words and a decimal number
unfoldable pub numbered : List ℕ → ℕ → List ℕ
numbered words number = words ++ decimal number

-- words and a signed decimal number
unfoldable pub signed : List ℕ → ℤ → List ℕ
signed words number = words ++ signed_decimal number

-- words and the number of a table
unfoldable pub tabled : List ℕ → ℕ → List ℕ
tabled words table = words ++ table_text table
