-- Lists of words by their length and items.
use Rattle.std.{proofs.Common.{◌≡◌, ◌<◌, ◌≤◌, List, [], ◌∷◌, length, get_or, sym, String, string_bytes, arith}, specs.declared.alloc.Global.{Global}}
use Rattle.ppdb_run_words.specs.Words.{texts}

pub one_word : (words : List (String Global)) (first : String Global) → 1 ≤ length words → length words < 2 → first ≡ get_or words 0 first
    → texts words ≡ string_bytes first ∷ []
one_word [] first l m e = absurd (omega arith)
one_word (a ∷ []) first l m e = λ i. string_bytes (sym e i) ∷ []
one_word (a ∷ b ∷ rest) first l m e = absurd (omega arith)
