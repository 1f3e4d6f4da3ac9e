-- The lines of a file's identity and of its entry point (this project's format).
use Rattle.std.specs.Prelude.{ℕ, List, [], ◌∷◌}
use Rattle.ppdb_values.specs.Names.{method_token}
use Rattle.ppdb_show_lines.specs.Lines.{Line, line_with, bare, octets, token}

abbrev pub id_line : List ℕ → Line
id_line id = line_with "id" (bare "id" (octets id) ∷ [])

abbrev pub entry_line : ℕ → Line
entry_line row = line_with "entry" (bare "entry" (token (method_token row)) ∷ [])
