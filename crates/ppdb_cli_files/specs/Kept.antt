-- The bytes that a writer or a sink was given.
use Rattle.std.specs.{Prelude.{ℕ, List, Option, take}, Io.KnownBytes.{Appends, append_known}}

-- the bytes that the writer holds, where they are known, and then the bytes that are kept
abbrev pub kept_after : Option (List ℕ) → List ℕ → ℕ → Option (List ℕ)
kept_after contents buffer kept = append_known contents (take kept buffer)

-- the known bytes grow by the first of these, maybe by none or by all
abbrev pub AppendsPart : Option (List ℕ) → Option (List ℕ) → List ℕ → Type 0
AppendsPart old new bytes = (count : ℕ) × Appends old new (take count bytes)
