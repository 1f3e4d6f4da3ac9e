-- Bytes that end with a zero byte, or are none, have words.
use Rattle.std.proofs.Common.{ℕ, ◌≡◌, ◌≢◌, ◌<◌, ◌-◌, ◌==◌, List, [], ◌∷◌, Bool, true, false, zero, suc, length, get_or, refl, sym, ◌∙◌, ap, arith}
use Rattle.std.{proofs.lemmas.Bool.{eqb-true, eqb-false}, specs.List.{All}}
use Rattle.ppdb_library.specs.Words.{AreWords, IsWhole}

pub record Spelled (bytes : List ℕ) : Type 0 where
  pub words : List (List ℕ)
  pub are : AreWords bytes words

abbrev NoZero : List ℕ → Type 0
NoZero word = All (λ byte. byte ≢ 0) word

abbrev Whole : List (List ℕ) → Type 0
Whole words = All NoZero words

one_more : {X : Type 0} (P : X → Type 0) (x : X) (xs : List X) → P x → All P xs → (k : ℕ) (d : X) → k < length (x ∷ xs) → P (get_or (x ∷ xs) k d)
one_more P x xs here after zero d below = here
one_more P x xs here after (suc k) d below = after k d (omega arith)

nothing : {X : Type 0} (P : X → Type 0) (k : ℕ) (d : X) → k < length {A = X} [] → P (get_or [] k d)
nothing P k d below = absurd (omega arith)

first_of : (word : List ℕ) (words : List (List ℕ)) → Whole (word ∷ words) → NoZero word
first_of word words whole = whole 0 [] (omega arith)

others_of : (word : List ℕ) (words : List (List ℕ)) → Whole (word ∷ words) → Whole words
others_of word words whole = λ k d below. whole (suc k) d (omega arith)

whole_tail : (byte : ℕ) (rest : List ℕ) → IsWhole (byte ∷ rest) → IsWhole rest
whole_tail byte rest whole = λ below.
    let one : length (byte ∷ rest) - 1 ≡ suc (length rest - 1) = omega arith in
    ap (λ i. get_or (byte ∷ rest) i 0) (sym one) ∙ whole (omega arith)

zero_first : (byte : ℕ) (rest : List ℕ) → byte ≡ 0 → Spelled rest → Spelled (byte ∷ rest)
zero_first byte rest is tail = record {
  words = [] ∷ tail.words;
  are = record {
    are = λ i. is i ∷ tail.are.are i;
    whole = one_more NoZero [] tail.words (nothing (λ byte. byte ≢ 0)) tail.are.whole;
  };
}

letter_first : (byte : ℕ) (rest : List ℕ) → byte ≢ 0 → IsWhole (byte ∷ rest) → (words : List (List ℕ)) → AreWords rest words → Spelled (byte ∷ rest)
letter_first byte rest letter whole [] are =
    let alone : byte ∷ rest ≡ byte ∷ [] = ap (λ after. byte ∷ after) are.are in
    let last : get_or (byte ∷ rest) (length (byte ∷ rest) - 1) 0 ≡ 0 = whole (omega arith) in
    absurd (letter (sym (ap (λ bytes. get_or bytes (length bytes - 1) 0) alone) ∙ last))
letter_first byte rest letter whole (word ∷ words) are = record {
  words = (byte ∷ word) ∷ words;
  are = record {
    are = ap (λ after. byte ∷ after) are.are;
    whole = one_more NoZero (byte ∷ word) words (one_more (λ byte. byte ≢ 0) byte word letter (first_of word words are.whole)) (others_of word words are.whole);
  };
}

by_test : (byte : ℕ) (rest : List ℕ) → IsWhole (byte ∷ rest) → Spelled rest → (test : Bool) → (byte == 0) ≡ test → Spelled (byte ∷ rest)
by_test byte rest whole tail true e = zero_first byte rest (eqb-true byte 0 e) tail
by_test byte rest whole tail false e = letter_first byte rest (eqb-false byte 0 e) whole tail.words tail.are

pub spelling : (bytes : List ℕ) → IsWhole bytes → Spelled bytes
spelling [] whole = record { words = []; are = record { are = refl; whole = nothing NoZero } }
spelling (byte ∷ rest) whole = by_test byte rest whole (spelling rest (whole_tail byte rest whole)) (byte == 0) refl
