-- A line says one thing, and a text is a list that asks one thing or has one first line that a list cannot have.
use Rattle.std.proofs.Common.{ℕ, suc, ◌≡◌, ◌+◌, ◌<◌, ◌≤◌, ◌^◌, ◌++◌, inl, inr, List, [], ◌∷◌, length, get_or, refl, sym, ap, ◌∙◌, subst, arith}
use Rattle.std.{specs.Prelude.{codes}, specs.Fmt.{decimal}, specs.Str.Parse.{digits_value}, proofs.lemmas.Fmt.{decimal_injective}}
use Rattle.ppdb_base.specs.declared.limits.TheConstants.{MAX_ROWS, MAX_OFFSET}
use Rattle.ppdb_maps.specs.Forms.{IsNumber}
use Rattle.ppdb_queries_list.specs.Lists.{IsMethod, IsOffset, Asks, IsListed, Lists, none, silent, asks, IsFirstOther, here, later}
use Rattle.ppdb_queries_list.{specs.declared.line.MethodOffset.{MethodOffset}, proofs.Numbers.{begins_as_number}}

-- ---- words

one_decimal : (most : ℕ) (word : List ℕ) (m n : ℕ) → most < 2 ^ 32 → IsNumber word 0 most m → IsNumber word 0 most n → m ≡ n
one_decimal most word m n below a b =
    let am : m ≤ most = a.to in let bn : n ≤ most = b.to in
    decimal_injective m n (omega (arith, am, below)) (omega (arith, bn, below)) (sym a.spelled ∙ b.spelled)

-- a decimal number does not begin with 0x
pub no_decimal : (word rest : List ℕ) (n : ℕ) → n < 2 ^ 32 → word ≡ decimal n → word ≡ 48 ∷ 120 ∷ rest → ⊥
no_decimal word rest n below is other =
    let begins = begins_as_number n word below is in
    let first : get_or word 0 0 ≡ 48 = ap (λ w. get_or w 0 0) other in
    let long : length word ≡ suc (suc (length rest)) = ap length other in
    elim begins.first [ inl more ↦ omega (arith, first, more) | inr only ↦ (let one : length word ≡ 1 = only.1 in omega (arith, one, long)) ]

pub same_rest : (xs ys : List ℕ) → codes "0x06" ++ xs ≡ codes "0x06" ++ ys → xs ≡ ys
same_rest xs ys e = cc e

pub same_rest_of : (xs ys : List ℕ) → codes "0x" ++ xs ≡ codes "0x" ++ ys → xs ≡ ys
same_rest_of xs ys e = cc e

pub one_method : (word : List ℕ) (m n : ℕ) → IsMethod word m → IsMethod word n → m ≡ n
one_method word m n (inl a) (inl b) = one_decimal MAX_ROWS word m n (omega arith) a b
one_method word m n (inl a) (inr b) = let am : m ≤ MAX_ROWS = a.to in absurd (no_decimal word (48 ∷ 54 ∷ b.digits) m (omega (arith, am)) a.spelled b.spelled)
one_method word m n (inr a) (inl b) = let bn : n ≤ MAX_ROWS = b.to in absurd (no_decimal word (48 ∷ 54 ∷ a.digits) n (omega (arith, bn)) b.spelled a.spelled)
one_method word m n (inr a) (inr b) = a.is ∙ ap (digits_value 16) (same_rest a.digits b.digits (sym a.spelled ∙ b.spelled)) ∙ sym b.is

pub one_offset : (word : List ℕ) (m n : ℕ) → IsOffset word m → IsOffset word n → m ≡ n
one_offset word m n (inl a) (inl b) = one_decimal MAX_OFFSET word m n (omega arith) a b
one_offset word m n (inl a) (inr b) = let am : m ≤ MAX_OFFSET = a.to in absurd (no_decimal word b.0.digits m (omega (arith, am)) a.spelled b.0.spelled)
one_offset word m n (inr a) (inl b) = let bn : n ≤ MAX_OFFSET = b.to in absurd (no_decimal word a.0.digits n (omega (arith, bn)) b.spelled a.0.spelled)
one_offset word m n (inr a) (inr b) = a.0.is ∙ ap (digits_value 16) (same_rest_of a.0.digits b.0.digits (sym a.0.spelled ∙ b.0.spelled)) ∙ sym b.0.is

-- ---- lines

abbrev at : ℕ → ℕ → MethodOffset
at method offset = record { method = method; offset = offset }

first_word : (a b c d : List ℕ) → a ∷ b ∷ [] ≡ c ∷ d ∷ [] → a ≡ c
first_word a b c d e = cc e

second_word : (a b c d : List ℕ) → a ∷ b ∷ [] ≡ c ∷ d ∷ [] → b ≡ d
second_word a b c d e = cc e

pub one_asked : (line : List ℕ) (x y : MethodOffset) → Asks line x → Asks line y → x ≡ y
one_asked line x y a b =
    let both = sym a.words ∙ b.words in
    let method : x.method ≡ y.method =
    one_method a.method x.method y.method a.is_method (subst (λ w. IsMethod w y.method) (sym (first_word a.method a.offset b.method b.offset both)) b.is_method) in
    let offset : x.offset ≡ y.offset =
    one_offset a.offset x.offset y.offset a.is_offset (subst (λ w. IsOffset w y.offset) (sym (second_word a.method a.offset b.method b.offset both)) b.is_offset) in
    ap (λ m. at m x.offset) method ∙ ap (λ o. at y.method o) offset

-- ---- lists

pub one_list : (lines : List (List ℕ)) (x y : List MethodOffset) → Lists lines x → Lists lines y → x ≡ y
one_list _ _ _ none none = refl
one_list _ _ _ (silent {lines = lines} {asked = xs} s h) (silent {asked = ys} t k) = one_list lines xs ys h k
one_list _ _ _ (silent s h) (asks a k) = absurd (a.speaks s)
one_list _ _ _ (asks a h) (silent s k) = absurd (a.speaks s)
one_list _ _ _ (asks {line = line} {lines = lines} {at = x} {asked = xs} a h) (asks {at = y} {asked = ys} b k) =
    ap (λ (z : MethodOffset). z ∷ xs) (one_asked line x y a b) ∙ ap (λ (zs : List MethodOffset). y ∷ zs) (one_list lines xs ys h k)

pub no_list : (lines : List (List ℕ)) (xs : List MethodOffset) (n : ℕ) → Lists lines xs → IsFirstOther lines n → ⊥
no_list _ _ n none other = elim other [ ]
no_list _ _ _ (silent s h) (here other) = other (inl s)
no_list _ _ _ (asks {at = x} a h) (here other) = other (inr (x, a))
no_list _ _ _ (silent {lines = lines} {asked = xs} s h) (later {n = n} listed k) = no_list lines xs n h k
no_list _ _ _ (asks {lines = lines} {asked = xs} a h) (later {n = n} listed k) = no_list lines xs n h k

pub one_other : (lines : List (List ℕ)) (m n : ℕ) → IsFirstOther lines m → IsFirstOther lines n → m ≡ n
one_other _ _ _ (here other) (here another) = refl
one_other _ _ _ (here other) (later listed k) = absurd (other listed)
one_other _ _ _ (later listed h) (here other) = absurd (other listed)
one_other _ _ _ (later {lines = lines} {n = m} listed h) (later {n = n} other k) = ap (λ x. x + 1) (one_other lines m n h k)

-- lines are a list, or one is the first that a list cannot have
pub lists_are_judged : (lines : List (List ℕ)) → ((asked : List MethodOffset) → Lists lines asked → ⊥) → ((n : ℕ) → IsFirstOther lines n → ⊥) → ⊥
lists_are_judged [] list other = list [] none
lists_are_judged (line ∷ lines) list other = other 1 (here (λ listed. lists_are_judged lines (rest_of listed) (λ n k. other (n + 1) (later listed k))))
  where
    rest_of : IsListed line → (asked : List MethodOffset) → Lists lines asked → ⊥
    rest_of (inl s) asked h = list asked (silent s h)
    rest_of (inr a) asked h = list (a.0 ∷ asked) (asks a.1 h)
