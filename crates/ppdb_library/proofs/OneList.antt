-- Bytes have one list of words at most.
use Rattle.std.{proofs.Common.{ℕ, ◌≡◌, ◌≢◌, List, [], ◌∷◌, ◌++◌, suc, refl, sym, ◌∙◌, arith}, specs.List.{All}}
use Rattle.ppdb_library.specs.Words.{AreWords, ended}

abbrev NoZero : List ℕ → Type 0
NoZero word = All (λ byte. byte ≢ 0) word

head_of : (byte : ℕ) (word : List ℕ) → NoZero (byte ∷ word) → byte ≢ 0
head_of byte word none = none 0 0 (omega arith)

tail_of : (byte : ℕ) (word : List ℕ) → NoZero (byte ∷ word) → NoZero word
tail_of byte word none = λ k d below. none (suc k) d (omega arith)

pub record SameCut (word other rest rest' : List ℕ) : Type 0 where
  pub words : word ≡ other
  pub rests : rest ≡ rest'

-- a text is cut in one way before its first zero byte
one_cut : (word other rest rest' : List ℕ) → NoZero word → NoZero other → word ++ 0 ∷ rest ≡ other ++ 0 ∷ rest' → SameCut word other rest rest'
one_cut [] [] rest rest' none none' e = record { words = refl; rests = cc }
one_cut [] (byte ∷ other) rest rest' none none' e =
    let zero_byte : 0 ≡ byte = cc in absurd (head_of byte other none' (sym zero_byte))
one_cut (byte ∷ word) [] rest rest' none none' e =
    let zero_byte : byte ≡ 0 = cc in absurd (head_of byte word none zero_byte)
one_cut (byte ∷ word) (byte' ∷ other) rest rest' none none' e =
    let first : byte ≡ byte' = cc in
    let after : word ++ 0 ∷ rest ≡ other ++ 0 ∷ rest' = cc in
    let same = one_cut word other rest rest' (tail_of byte word none) (tail_of byte' other none') after in
    record { words = λ i. first i ∷ same.words i; rests = same.rests }

abbrev Whole : List (List ℕ) → Type 0
Whole words = All NoZero words

first_of : (word : List ℕ) (words : List (List ℕ)) → Whole (word ∷ words) → NoZero word
first_of word words whole = whole 0 [] (omega arith)

others_of : (word : List ℕ) (words : List (List ℕ)) → Whole (word ∷ words) → Whole words
others_of word words whole = λ k d below. whole (suc k) d (omega arith)

not_empty : (word rest : List ℕ) → [] ≡ word ++ 0 ∷ rest → ⊥
not_empty [] rest e = cc
not_empty (byte ∷ word) rest e = cc

one_list : (words others : List (List ℕ)) → Whole words → Whole others → ended words ≡ ended others → words ≡ others
one_list [] [] whole whole' e = refl
one_list [] (other ∷ others) whole whole' e = absurd (not_empty other (ended others) e)
one_list (word ∷ words) [] whole whole' e = absurd (not_empty word (ended words) (sym e))
one_list (word ∷ words) (other ∷ others) whole whole' e =
    let same = one_cut word other (ended words) (ended others) (first_of word words whole) (first_of other others whole') e in
    let rest = one_list words others (others_of word words whole) (others_of other others whole') same.rests in
    λ i. same.words i ∷ rest i

pub one_words : (bytes : List ℕ) (words others : List (List ℕ)) → AreWords bytes words → AreWords bytes others → words ≡ others
one_words bytes words others one other = one_list words others one.whole other.whole (sym one.are ∙ other.are)
