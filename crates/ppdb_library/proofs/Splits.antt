-- Words that are split off a text one after the other.
use Rattle.std.proofs.Common.{ℕ, ◌≡◌, ◌≢◌, ◌<◌, ◌+◌, ◌-◌, List, [], ◌∷◌, ◌++◌, length, get_or, append_assoc, length-append, refl, sym, ◌∙◌, ap, arith}
use Rattle.std.proofs.{Math.Seq.{append_snoc}, lemmas.List.{get_or-append_right}}
use Rattle.ppdb_library.specs.Words.{IsWhole, ended}

pub ended_push : (words : List (List ℕ)) (word : List ℕ) → ended (words ++ word ∷ []) ≡ ended words ++ (word ++ 0 ∷ [])
ended_push [] word = refl
ended_push (first ∷ words) word =
    ap (λ rest. first ++ 0 ∷ rest) (ended_push words word) ∙ sym (append_assoc first (0 ∷ ended words) (word ++ 0 ∷ []))

-- one word more
pub one_word : (text : List ℕ) (words : List (List ℕ)) (rest word others : List ℕ) → text ≡ ended words ++ rest → rest ≡ word ++ 0 ∷ others
    → text ≡ ended (words ++ word ∷ []) ++ others
one_word text words rest word others all next = simp (ended_push, append_assoc) (all ∙ ap (λ r. ended words ++ r) next)

-- a text whose last byte is a zero byte ends with its last word
pub nothing_left : (text prefix rest : List ℕ) → IsWhole text → text ≡ prefix ++ rest → ((i : ℕ) → i < length rest → get_or rest i 0 ≢ 0) → rest ≡ []
nothing_left text prefix [] whole all none = refl
nothing_left text prefix (byte ∷ rest) whole all none =
    let long : length text ≡ length prefix + (length rest + 1) = ap length all ∙ (length-append prefix (byte ∷ rest) ∙ omega arith) in
    let last : get_or text (length text - 1) 0 ≡ 0 = whole (omega arith) in
    let moved : get_or (prefix ++ (byte ∷ rest)) (length text - 1) 0 ≡ get_or (byte ∷ rest) (length text - 1 - length prefix) 0 =
    get_or-append_right prefix (byte ∷ rest) (length prefix) (length text - 1) 0 refl (omega arith) in
    absurd (none (length text - 1 - length prefix) (omega arith) (sym moved ∙ (ap (λ bytes. get_or bytes (length text - 1) 0) (sym all) ∙ last)))

-- words that are ended end with a zero byte
more_than_none : (word : List ℕ) (words : List (List ℕ)) → 0 < length (ended (word ∷ words))
more_than_none word words = let long = length-append word (0 ∷ ended words) in omega (arith, long)

pub ended_whole : (words : List (List ℕ)) → IsWhole (ended words)
ended_whole [] = λ below. absurd (omega arith)
ended_whole (word ∷ []) = λ below.
    let long : length (word ++ 0 ∷ []) ≡ length word + 1 = length-append word (0 ∷ []) in
    get_or-append_right word (0 ∷ []) (length word) (length (word ++ 0 ∷ []) - 1) 0 refl (omega (arith, long))
    ∙ ap (λ i. get_or (0 ∷ []) i 0) (let at_end : length (word ++ 0 ∷ []) - 1 - length word ≡ 0 = omega (arith, long) in at_end)
ended_whole (word ∷ next ∷ words) = λ below.
    let prefix = word ++ 0 ∷ [] in
    let rest = ended (next ∷ words) in
    let some : 0 < length rest = more_than_none next words in
    let cut : word ++ 0 ∷ rest ≡ prefix ++ rest = sym (append_snoc word 0 rest) in
    let long : length (word ++ 0 ∷ rest) ≡ length prefix + length rest = ap length cut ∙ length-append prefix rest in
    ap (λ bytes. get_or bytes (length (word ++ 0 ∷ rest) - 1) 0) cut
    ∙ (get_or-append_right prefix rest (length prefix) (length (word ++ 0 ∷ rest) - 1) 0 refl (omega (arith, long, some))
    ∙ (ap (λ i. get_or rest i 0) (let moved : length (word ++ 0 ∷ rest) - 1 - length prefix ≡ length rest - 1 = omega (arith, long, some) in moved)
    ∙ ended_whole (next ∷ words) some))
