-- Words that name files and maps, two by two, and options after them.
use Rattle.std.proofs.Common.{ℕ, zero, suc, ◌≡◌, ◌≤◌, ◌<◌, ◌+◌, ◌-◌, ◌⊎◌, List, [], ◌∷◌, ◌++◌, length, take, drop, get_or, String, string_bytes, inl, inr, Bool}
use Rattle.std.{proofs.Common.{true, false, cond, refl, sym, ◌∙◌, ap, subst, arith}, specs.Prelude.{◌&&◌, ◌==◌, IsTrue, codes, take_while}}
use Rattle.std.{specs.declared.alloc.Global.{Global}, proofs.lemmas.Bool.{eqb-true}, proofs.lemmas.List.{take_all}, specs.List.{list_all, prefix_len}}
use Rattle.ppdb_run_words.specs.{Task.{NoPair, pairs_of, file_of}, Words.{Options, AreOptions, no_option, keep_id, free, Input, input_words, is_file_word, texts}}
use Rattle.ppdb_run_words.specs.Words.{NoTask, Words, Id, Verify, Show, Query, Links, Breaks, Ask, Lookup, Rebuild, Compose, Merge, Sample}

-- what holds of two
pub both : (a b : Bool) → IsTrue (a && b) → IsTrue a × IsTrue b
both true true h = (refl, refl)
both true false h = absurd cc
both false b h = absurd cc

pub behind_first : {X : Type 0} (test : X → Bool) (x : X) (xs : List X) → IsTrue (list_all test (x ∷ xs)) → IsTrue (list_all test xs)
behind_first test x xs h = (both (test x) (list_all test xs) h).1

-- a word of options names no file
pub no_options_pair : (words : List (List ℕ)) (options : Options) → AreOptions words options → NoPair words
no_options_pair _ _ no_option = tt
no_options_pair _ _ (keep_id {words = []} h) = tt
no_options_pair _ _ (keep_id {words = next ∷ words} h) = refl
no_options_pair _ _ (free word guid e h) = refl

-- two words that name files are a pair
not_pair : (words : List (List ℕ)) (input : Input) (rest others : List (List ℕ)) → words ≡ input.file ∷ input.map_file ∷ rest → NoPair words
    → IsTrue (list_all is_file_word (input.file ∷ input.map_file ∷ others)) → ⊥
not_pair words input rest others e none h =
    let no : (is_file_word input.file && is_file_word input.map_file) ≡ false = subst NoPair e none in
    let first = both (is_file_word input.file) (list_all is_file_word (input.map_file ∷ others)) h in
    let second = both (is_file_word input.map_file) (list_all is_file_word others) first.1 in
    absurd (let yes : (is_file_word input.file && is_file_word input.map_file) ≡ true = rw (first.0, second.0) refl in cc)

-- inputs before words that begin with no pair are determined by the words
pub same_inputs : (one other : List Input) (rest more : List (List ℕ)) → IsTrue (list_all is_file_word (input_words one))
    → IsTrue (list_all is_file_word (input_words other)) → NoPair rest → NoPair more → input_words one ++ rest ≡ input_words other ++ more
    → (one ≡ other) × (rest ≡ more)
same_inputs [] [] rest more f g n m e = (refl, e)
same_inputs [] (i ∷ is) rest more f g n m e = absurd (not_pair rest i (input_words is ++ more) (input_words is) e n g)
same_inputs (i ∷ is) [] rest more f g n m e = absurd (not_pair more i (input_words is ++ rest) (input_words is) (sym e) m f)
same_inputs (i ∷ is) (j ∷ js) rest more f g n m e =
    let file : i.file ≡ j.file = cc in
    let map_file : i.map_file ≡ j.map_file = cc in
    let behind : input_words is ++ rest ≡ input_words js ++ more = cc in
    let same = same_inputs is js rest more
    (behind_first is_file_word i.map_file (input_words is) (behind_first is_file_word i.file (i.map_file ∷ input_words is) f))
    (behind_first is_file_word j.map_file (input_words js) (behind_first is_file_word j.file (j.map_file ∷ input_words js) g)) n m behind in
    ((λ k. record { file = file k; map_file = map_file k } ∷ same.0 k), same.1)

-- the words of pairs, and the pairs of words
pub pairs_back : (inputs : List Input) → pairs_of (input_words inputs) ≡ inputs
pairs_back [] = refl
pairs_back (i ∷ is) = ap (λ (rest : List Input). i ∷ rest) (pairs_back is)

-- ---- words that are read from the left

-- the words begin with those of inputs, and this is what is after them
pub record Prefix (words rest : List (List ℕ)) : Type 0 where
  pub inputs : List Input
  pub whole : words ≡ input_words inputs ++ rest
  pub files : IsTrue (list_all is_file_word (input_words inputs))

words_on : (inputs : List Input) (input : Input) (rest : List (List ℕ))
    → input_words inputs ++ input.file ∷ input.map_file ∷ rest ≡ input_words (inputs ++ input ∷ []) ++ rest
words_on [] input rest = refl
words_on (i ∷ is) input rest = ap (λ (w : List (List ℕ)). i.file ∷ i.map_file ∷ w) (words_on is input rest)

files_on : (inputs : List Input) (input : Input) → IsTrue (list_all is_file_word (input_words inputs)) → IsTrue (is_file_word input.file)
    → IsTrue (is_file_word input.map_file) → IsTrue (list_all is_file_word (input_words (inputs ++ input ∷ [])))
files_on [] input h f m = rw (f, m) refl
files_on (i ∷ is) input h f m =
    let one = both (is_file_word i.file) (list_all is_file_word (i.map_file ∷ input_words is)) h in
    let two = both (is_file_word i.map_file) (list_all is_file_word (input_words is)) one.1 in
    rw (one.0, two.0) (files_on is input two.1 f m)

-- two more words that name files
pub prefix_next : (words rest after : List (List ℕ)) (file map_file : List ℕ) → rest ≡ file ∷ map_file ∷ after → IsTrue (is_file_word file)
    → IsTrue (is_file_word map_file) → Prefix words rest → Prefix words after
prefix_next words rest after file map_file e f m h = record {
  inputs = h.inputs ++ record { file = file; map_file = map_file } ∷ [];
  whole = h.whole ∙ (ap (λ (r : List (List ℕ)). input_words h.inputs ++ r) e ∙ words_on h.inputs (record { file = file; map_file = map_file }) after);
  files = files_on h.inputs (record { file = file; map_file = map_file }) h.files f m;
}

taken : (xs rest : List (List ℕ)) → (take (length xs) (xs ++ rest) ≡ xs) × (drop (length xs) (xs ++ rest) ≡ rest)
taken [] [] = (refl, refl)
taken [] (x ∷ rest) = (refl, refl)
taken (x ∷ xs) rest = let more = taken xs rest in (ap (λ (w : List (List ℕ)). x ∷ w) more.0, more.1)

joined_length : (xs rest : List (List ℕ)) → length (xs ++ rest) ≡ length xs + length rest
joined_length [] rest = omega arith
joined_length (x ∷ xs) rest = let more = joined_length xs rest in omega (arith, more)

-- so many words are those before
pub prefix_taken : (words rest : List (List ℕ)) (n : ℕ) → n ≡ length words - length rest → (h : Prefix words rest)
    → (take n words ≡ input_words h.inputs) × (drop n words ≡ rest)
prefix_taken words rest n e h =
    let long : n ≡ length (input_words h.inputs) = omega (arith, e, ap length h.whole, joined_length (input_words h.inputs) rest) in
    let cut = taken (input_words h.inputs) rest in
    rw (long, h.whole) cut

pub prefix_even : (words : List (List ℕ)) (inputs : List Input) → words ≡ input_words inputs → words ≡ input_words (pairs_of words)
prefix_even words inputs e = e ∙ sym (ap input_words (ap pairs_of e ∙ pairs_back inputs))

-- inputs have two words each
pub two_each : (inputs : List Input) → length (input_words inputs) ≡ length inputs + length inputs
two_each [] = refl
two_each (i ∷ is) = let more = two_each is in omega (arith, more)

-- ---- words that are those of no command

-- the first and the third letter of the first word
abbrev pub first_letter : List (List ℕ) → ℕ
first_letter ((c ∷ letters) ∷ words) = c
first_letter words = 0

abbrev pub third_letter : List (List ℕ) → ℕ
third_letter ((a ∷ b ∷ c ∷ letters) ∷ words) = c
third_letter words = 0

-- the words of one input after `remap`
pub record AfterRemap (inputs : List Input) (output : List ℕ) (options : Options) (words : List (List ℕ)) : Type 0 where
  pub input : Input
  pub rest : List (List ℕ)
  pub alone : inputs ≡ input ∷ []
  pub is : words ≡ codes "remap" ∷ input.file ∷ input.map_file ∷ output ∷ rest
  pub files : IsTrue (list_all is_file_word (input.file ∷ input.map_file ∷ output ∷ []))
  pub options_are : AreOptions rest options

-- the words of inputs after `merge`
pub record AfterMerge (inputs : List Input) (output : List ℕ) (options : Options) (words : List (List ℕ)) : Type 0 where
  pub rest : List (List ℕ)
  pub some : 1 ≤ length inputs
  pub most : length inputs ≤ 256
  pub is : words ≡ codes "merge" ∷ output ∷ (input_words inputs ++ rest)
  pub files : IsTrue (list_all is_file_word (output ∷ input_words inputs))
  pub options_are : AreOptions rest options

after_remap : (inputs : List Input) (output : List ℕ) (options : Options) (words rest : List (List ℕ)) → length inputs ≡ 1
    → words ≡ codes "remap" ∷ (input_words inputs ++ output ∷ rest) → IsTrue (list_all is_file_word (output ∷ input_words inputs)) → AreOptions rest options
    → AfterRemap inputs output options words
after_remap [] output options words rest one is files options_are = absurd (omega (arith, one))
after_remap (input ∷ []) output options words rest one is files options_are =
    let a = both (is_file_word output) (list_all is_file_word (input.file ∷ input.map_file ∷ [])) files in
    let b = both (is_file_word input.file) (list_all is_file_word (input.map_file ∷ [])) a.1 in
    let c = both (is_file_word input.map_file) (list_all is_file_word []) b.1 in
    record { input = input; rest = rest; alone = refl; is = is; files = rw (b.0, c.0, a.0) refl; options_are = options_are }
after_remap (input ∷ other ∷ more) output options words rest one is files options_are = absurd (omega (arith, one))

-- the words of a merge are in one of the two forms
pub in_form : (inputs : List Input) (output : List ℕ) (options : Options) (words : List (List ℕ)) → Words (Merge inputs output options) words
    → AfterRemap inputs output options words ⊎ AfterMerge inputs output options words
in_form inputs output options words h = elim h.is [
  | inl is ↦ inr (record { rest = h.rest; some = h.some; most = h.most; is = is; files = h.files; options_are = h.options_are })
  | inr is ↦ inl (after_remap inputs output options words h.rest is.0 is.1 h.files h.options_are)
]

-- words of a merge are split in one way
pub merge_is : (inputs : List Input) (output first : List ℕ) (options : Options) (words prefix back : List (List ℕ))
    → words ≡ prefix ++ back → prefix ≡ input_words (pairs_of prefix) → IsTrue (list_all is_file_word prefix) → NoPair back
    → (h : AfterMerge inputs output options (codes "merge" ∷ first ∷ words)) → (output ≡ first) × (inputs ≡ pairs_of prefix) × (h.rest ≡ back)
merge_is inputs output first options words prefix back e even files none h =
    let is = h.is in
    let same : output ≡ first = cc in
    let split : input_words inputs ++ h.rest ≡ input_words (pairs_of prefix) ++ back =
    (let both : words ≡ input_words inputs ++ h.rest = cc in sym both) ∙ (e ∙ ap (λ (w : List (List ℕ)). w ++ back) even) in
    let one = same_inputs inputs (pairs_of prefix) h.rest back (behind_first is_file_word output (input_words inputs) h.files)
    (subst (λ w. IsTrue (list_all is_file_word w)) even files) (no_options_pair h.rest options h.options_are) none split in
    (same, one.0, one.1)

-- words that begin as those of a merge are no other task's
pub only_merge : (words : List (List ℕ)) → ((inputs : List Input) (output : List ℕ) (options : Options) → AfterMerge inputs output options
    (codes "merge" ∷ words) → ⊥)
    → NoTask (codes "merge" ∷ words)
only_merge words none (Ask (Id json) file) h = let e : 109 ≡ 105 = ap first_letter h.0 in absurd (omega (arith, e))
only_merge words none (Ask Verify file) h = let e : 109 ≡ 118 = ap first_letter h.0 in absurd (omega (arith, e))
only_merge words none (Ask (Show json) file) h = let e : 109 ≡ 115 = ap first_letter h.0 in absurd (omega (arith, e))
only_merge words none (Ask (Query method offset json) file) h = let e : 109 ≡ 113 = ap first_letter h.0 in absurd (omega (arith, e))
only_merge words none (Ask (Links json) file) h = let e : 109 ≡ 108 = ap first_letter h.0 in absurd (omega (arith, e))
only_merge words none (Ask (Breaks document line json) file) h = let e : 109 ≡ 98 = ap first_letter h.0 in absurd (omega (arith, e))
only_merge words none (Lookup file list json) h = let e : 109 ≡ 108 = ap first_letter h.0 in absurd (omega (arith, e))
only_merge words none (Rebuild input output options) h = let e : 109 ≡ 114 = ap first_letter h.1 in absurd (omega (arith, e))
only_merge words none (Compose first second output) h = let e : 109 ≡ 99 = ap first_letter h.0 in absurd (omega (arith, e))
only_merge words none (Sample n) h = let e : 109 ≡ 115 = ap first_letter h.0 in absurd (omega (arith, e))
only_merge words none (Merge inputs output options) h = elim (in_form inputs output options (codes "merge" ∷ words) h) [
  | inl k ↦ let e : 109 ≡ 114 = ap first_letter k.is in absurd (omega (arith, e))
  | inr k ↦ none inputs output options k
]

module _ (args : List (List ℕ)) (first : List ℕ) (words prefix back : List (List ℕ)) (is : args ≡ first ∷ words) (split : words ≡ prefix ++ back)
    (even : prefix ≡ input_words (pairs_of prefix)) (files : IsTrue (list_all is_file_word prefix)) (none : NoPair back) where
  merge_parts : (inputs : List Input) (output : List ℕ) (options : Options) → AfterMerge inputs output options (codes "merge" ∷ args)
      → (1 ≤ length inputs) × (length inputs ≤ 256) × (inputs ≡ pairs_of prefix) × AreOptions back options
  merge_parts inputs output options h =
      let k : AfterMerge inputs output options (codes "merge" ∷ first ∷ words) =
      subst (λ w. AfterMerge inputs output options (codes "merge" ∷ w)) is h in
      let one = merge_is inputs output first options words prefix back split even files none k in
      (k.some, k.most, one.1, subst (λ w. AreOptions w options) one.2 k.options_are)

  -- there is no pair, or there are too many
  pub no_merge_count : (length prefix ≡ 0) ⊎ (512 < length prefix) → NoTask (codes "merge" ∷ args)
  no_merge_count count = only_merge args (λ inputs output options h.
      let parts = merge_parts inputs output options h in
      let same = ap length parts.2 in
      let long = ap length even in
      let two = two_each (pairs_of prefix) in
      let some = parts.0 in
      let most = parts.1 in
      elim count [
        | inl nothing ↦ absurd (omega (arith, nothing, same, long, two, some))
        | inr many ↦ absurd (omega (arith, many, same, long, two, most))
      ])

  -- what is after the pairs are no options
  pub no_merge_options : ((options : Options) → AreOptions back options → ⊥) → NoTask (codes "merge" ∷ args)
  no_merge_options refused = only_merge args (λ inputs output options h. refused options (merge_parts inputs output options h).3)

  -- they are, and there are as many pairs as there can be
  pub merge_words : (output : List ℕ) (options : Options) → output ≡ first → IsTrue (is_file_word first) → 1 ≤ length prefix → length prefix ≤ 512
      → AreOptions back options → Words (Merge (pairs_of prefix) output options) (codes "merge" ∷ args)
  merge_words output options same file some most options_are =
      let long = ap length even in
      let two = two_each (pairs_of prefix) in
      record {
        rest = back;
        some = omega (arith, some, long, two);
        most = omega (arith, most, long, two);
        is = inl (ap (λ (w : List (List ℕ)). codes "merge" ∷ w) (is ∙ (ap (λ (w : List (List ℕ)). first ∷ w) (split ∙ ap (λ (w : List (List ℕ)). w ++ back) even)
            ∙ ap (λ (w : List ℕ). w ∷ input_words (pairs_of prefix) ++ back) (sym same))));
        files = rw (ap is_file_word same ∙ file) (subst (λ w. IsTrue (list_all is_file_word w)) even files);
        options_are = options_are;
      }

pub only_remap : (words : List (List ℕ)) → ((inputs : List Input) (output : List ℕ) (options : Options) → AfterRemap inputs output options
    (codes "remap" ∷ words) → ⊥)
    → NoTask (codes "remap" ∷ words)
only_remap words none (Ask (Id json) file) h = let e : 114 ≡ 105 = ap first_letter h.0 in absurd (omega (arith, e))
only_remap words none (Ask Verify file) h = let e : 114 ≡ 118 = ap first_letter h.0 in absurd (omega (arith, e))
only_remap words none (Ask (Show json) file) h = let e : 114 ≡ 115 = ap first_letter h.0 in absurd (omega (arith, e))
only_remap words none (Ask (Query method offset json) file) h = let e : 114 ≡ 113 = ap first_letter h.0 in absurd (omega (arith, e))
only_remap words none (Ask (Links json) file) h = let e : 114 ≡ 108 = ap first_letter h.0 in absurd (omega (arith, e))
only_remap words none (Ask (Breaks document line json) file) h = let e : 114 ≡ 98 = ap first_letter h.0 in absurd (omega (arith, e))
only_remap words none (Lookup file list json) h = let e : 114 ≡ 108 = ap first_letter h.0 in absurd (omega (arith, e))
only_remap words none (Rebuild input output options) h = let e : 109 ≡ 98 = ap third_letter h.1 in absurd (omega (arith, e))
only_remap words none (Compose first second output) h = let e : 114 ≡ 99 = ap first_letter h.0 in absurd (omega (arith, e))
only_remap words none (Sample n) h = let e : 114 ≡ 115 = ap first_letter h.0 in absurd (omega (arith, e))
only_remap words none (Merge inputs output options) h = elim (in_form inputs output options (codes "remap" ∷ words) h) [
  | inl k ↦ none inputs output options k
  | inr k ↦ let e : 114 ≡ 109 = ap first_letter k.is in absurd (omega (arith, e))
]

-- the words of one input
pub remap_words : (file map_file output : List ℕ) (args rest : List (List ℕ)) (options : Options) → args ≡ file ∷ map_file ∷ output ∷ rest
    → IsTrue (is_file_word file) → IsTrue (is_file_word map_file) → IsTrue (is_file_word output) → AreOptions rest options
    → Words (Merge (record { file = file; map_file = map_file } ∷ []) output options) (codes "remap" ∷ args)
remap_words file map_file output args rest options is f m o options_are = record {
  rest = rest;
  some = omega arith;
  most = omega arith;
  is = inr (refl, ap (λ (w : List (List ℕ)). codes "remap" ∷ w) is);
  files = rw (o, f, m) refl;
  options_are = options_are;
}

-- too few words
pub no_remap_few : (args : List (List ℕ)) → length args < 3 → NoTask (codes "remap" ∷ args)
no_remap_few args few = only_remap args (λ inputs output options h. let same = ap length h.is in absurd (omega (arith, same, few)))

module _ (args : List (List ℕ)) (file map_file output : List ℕ) (back : List (List ℕ)) (is : args ≡ file ∷ map_file ∷ output ∷ back) where
  -- not all of the first three name files
  pub no_remap_names : (list_all is_file_word (file ∷ map_file ∷ output ∷ []) ≡ false) → NoTask (codes "remap" ∷ args)
  no_remap_names not = only_remap args (λ inputs named options h.
      let given = h.is in
      let same : file ∷ map_file ∷ output ∷ [] ≡ h.input.file ∷ h.input.map_file ∷ named ∷ [] = cc in
      let either : false ≡ true = sym not ∙ (ap (λ (w : List (List ℕ)). list_all is_file_word w) same ∙ h.files) in
      absurd cc)

  -- what is after them are no options
  pub no_remap_options : ((options : Options) → AreOptions back options → ⊥) → NoTask (codes "remap" ∷ args)
  no_remap_options refused = only_remap args (λ inputs named options h.
      let given = h.is in
      let rest : h.rest ≡ back = cc in
      refused options (subst (λ w. AreOptions w options) rest h.options_are))

pub first_not : (a b c : Bool) → a ≡ false → (a && (b && (c && true))) ≡ false
first_not a b c e = rw e refl

pub second_not : (a b c : Bool) → b ≡ false → (a && (b && (c && true))) ≡ false
second_not true b c e = rw e refl
second_not false b c e = refl

pub third_not : (a b c : Bool) → c ≡ false → (a && (b && (c && true))) ≡ false
third_not true true c e = rw e refl
third_not true false c e = refl
third_not false b c e = refl

-- ---- the file of the input of a number

pub file_here : (words after : List (List ℕ)) (file map_file : List ℕ) (n : ℕ) → words ≡ file ∷ map_file ∷ after → n ≡ 1 → file ≡ file_of (pairs_of words) n
file_here words after file map_file n e one = sym (ap (λ (w : List (List ℕ)). file_of (pairs_of w) n) e ∙ ap (file_of (pairs_of (file ∷ map_file ∷ after))) one)

pub file_next : (words after : List (List ℕ)) (file map_file : List ℕ) (n : ℕ) → words ≡ file ∷ map_file ∷ after → (n ≡ 1 → ⊥)
    → file_of (pairs_of after) (n - 1) ≡ file_of (pairs_of words) n
file_next words after file map_file zero e not =
    let less : 0 - 1 ≡ 0 = omega arith in ap (file_of (pairs_of after)) less ∙ sym (ap (λ (w : List (List ℕ)). file_of (pairs_of w) 0) e)
file_next words after file map_file (suc zero) e not = absurd (not refl)
file_next words after file map_file (suc (suc n)) e not =
    let less : suc (suc n) - 1 ≡ suc n = omega arith in
    ap (file_of (pairs_of after)) less ∙ sym (ap (λ (w : List (List ℕ)). file_of (pairs_of w) (suc (suc n))) e)

pub file_none : (words : List (List ℕ)) (n : ℕ) → length words < 2 → [] ≡ file_of (pairs_of words) n
file_none [] zero h = refl
file_none [] (suc n) h = refl
file_none (a ∷ []) zero h = refl
file_none (a ∷ []) (suc n) h = refl
file_none (a ∷ b ∷ words) n h = absurd (omega arith)

-- ---- a slice of words, and the words after two of it

pub two_of : (rest : List (String Global)) (a b : String Global) → 2 ≤ length rest → a ≡ get_or rest 0 a → b ≡ get_or rest 1 b
    → texts rest ≡ string_bytes a ∷ string_bytes b ∷ texts (drop 2 rest)
two_of [] a b l e f = absurd (omega arith)
two_of (x ∷ []) a b l e f = absurd (omega arith)
two_of (x ∷ y ∷ rest) a b l e f = λ i. string_bytes (sym e i) ∷ string_bytes (sym f i) ∷ texts rest

-- its first word, and the words after it
pub one_of : (words : List (String Global)) (a : String Global) → 1 ≤ length words → a ≡ get_or words 0 a
    → texts words ≡ string_bytes a ∷ texts (take (length words - 1) (drop 1 words))
one_of [] a l e = absurd (omega arith)
one_of (x ∷ words) a l e = λ i. string_bytes (sym e i) ∷ texts (sym (take_all (length (x ∷ words) - 1) words (omega arith)) i)

pub three_of : (words : List (String Global)) (a b c : String Global) → 3 ≤ length words → a ≡ get_or words 0 a → b ≡ get_or words 1 b → c ≡ get_or words 2 c
    → texts words ≡ string_bytes a ∷ string_bytes b ∷ string_bytes c ∷ texts (take (length words - 3) (drop 3 words))
three_of [] a b c l e f g = absurd (omega arith)
three_of (x ∷ []) a b c l e f g = absurd (omega arith)
three_of (x ∷ y ∷ []) a b c l e f g = absurd (omega arith)
three_of (x ∷ y ∷ z ∷ words) a b c l e f g = λ i.
    string_bytes (sym e i) ∷ string_bytes (sym f i) ∷ string_bytes (sym g i)
    ∷ texts (sym (take_all (length (x ∷ y ∷ z ∷ words) - 3) words (omega arith)) i)

-- its first word, and one more
pub first_two : (rest : List (String Global)) (a : String Global) → 2 ≤ length rest → a ≡ get_or rest 0 a
    → texts rest ≡ string_bytes a ∷ string_bytes (get_or rest 1 a) ∷ texts (drop 2 rest)
first_two [] a l e = absurd (omega arith)
first_two (x ∷ []) a l e = absurd (omega arith)
first_two (x ∷ y ∷ rest) a l e = λ i. string_bytes (sym e i) ∷ string_bytes y ∷ texts rest

pub is_empty : (words : List (String Global)) → (length words == 0) ≡ true → length words ≡ 0
is_empty words e = eqb-true (length words) 0 e

pub not_empty : (words : List (String Global)) → (length words == 0) ≡ false → 1 ≤ length words
not_empty [] e = absurd (let same : true ≡ false = e in cc)
not_empty (x ∷ words) e = omega arith

-- ---- where the options begin

-- so many words come before the options
before_count : (prefix back : List (List ℕ)) (options : Options) → IsTrue (list_all is_file_word prefix) → AreOptions back options
    → prefix_len is_file_word (prefix ++ back) ≡ length prefix
before_count [] _ _ files no_option = refl
before_count [] _ _ files (keep_id h) = refl
before_count [] _ _ files (free word guid e h) = refl
before_count (w ∷ prefix) back options files h =
    let parts = both (is_file_word w) (list_all is_file_word prefix) files in
    let more = before_count prefix back options parts.1 h in
    let one_more : 1 + prefix_len is_file_word (prefix ++ back) ≡ length (w ∷ prefix) = omega (arith, more) in
    ap (λ b. cond b (1 + prefix_len is_file_word (prefix ++ back)) 0) parts.0 ∙ one_more

-- those before are the words before the options
pub options_begin : (args : List (List ℕ)) (first : List ℕ) (words prefix back : List (List ℕ)) (options : Options) → args ≡ first ∷ words → words ≡ prefix ++ back
    → IsTrue (list_all is_file_word prefix) → AreOptions back options
    → (prefix ≡ take_while is_file_word (drop 2 (codes "merge" ∷ args)))
    × (back ≡ drop (prefix_len is_file_word (drop 2 (codes "merge" ∷ args))) (drop 2 (codes "merge" ∷ args)))
options_begin args first words prefix back options is split files h =
    let cut = taken prefix back in
    let count = before_count prefix back options files h in
    let after : drop 2 (codes "merge" ∷ args) ≡ prefix ++ back = ap (λ w. drop 2 (codes "merge" ∷ w)) is ∙ split in (
      sym (ap (take_while is_file_word) after ∙ ap (λ n. take n (prefix ++ back)) count ∙ cut.0),
      sym (ap (λ w. drop (prefix_len is_file_word w) w) after ∙ ap (λ n. drop n (prefix ++ back)) count ∙ cut.1),
    )

pub options_pairs : (args : List (List ℕ)) (first : List ℕ) (rest : List (List ℕ)) (prefix back given : List (String Global)) (options : Options)
    → args ≡ first ∷ rest → rest ≡ texts prefix ++ texts back → IsTrue (list_all is_file_word (texts prefix)) → AreOptions (texts back) options → given ≡ back
    → (texts prefix ≡ take_while is_file_word (drop 2 (codes "merge" ∷ args)))
    × (texts given ≡ drop (prefix_len is_file_word (drop 2 (codes "merge" ∷ args))) (drop 2 (codes "merge" ∷ args)))
options_pairs args first rest prefix back given options is split files h same =
    let begin = options_begin args first rest (texts prefix) (texts back) options is split files h in (begin.0, ap texts same ∙ begin.1)

-- ---- how many inputs words name

pub merge_counts : (inputs : List Input) (output : List ℕ) (options : Options) (words : List (List ℕ)) → Words (Merge inputs output options) words
    → (1 ≤ length inputs) × (length inputs ≤ 256)
merge_counts inputs output options words h = (h.some, h.most)

-- the words of a merge, by its parts
pub merge_spelled : (args : List (List ℕ)) (first output : List ℕ) (rest : List (List ℕ)) (prefix back given : List (String Global))
    → args ≡ first ∷ rest → rest ≡ texts prefix ++ texts back → output ≡ first → given ≡ back
    → codes "merge" ∷ args ≡ codes "merge" ∷ output ∷ (texts prefix ++ texts given)
merge_spelled args first output rest prefix back given whole split same words = rw (whole, split, same, words)
