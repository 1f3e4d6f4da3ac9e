-- Bytes have one spelling, and a spelling is of one list of bytes.
use Rattle.std.proofs.Common.{zero, suc, ◌≡◌, ℕ, ◌+◌, ◌*◌, ◌/◌, ◌%◌, ◌<◌, ◌≤◌, ◌⊎◌, ◌&&◌, ◌++◌, Bool, true, false, cond, List, [], ◌∷◌, length, get_or, refl, Option}
use Rattle.std.{proofs.Common.{Some, None, IfNone, inl, inr, sym, ap, ◌∙◌, subst, arith}, specs.Prelude.{◌==◌, if◌then◌else◌, codes, nat_lt}, specs.List.{flat_map}}
use Rattle.std.{specs.List.{slice_index}, proofs.lemmas.Bool.{false≢true, and_parts, cases_lt, eqb-true}, proofs.lemmas.Bool.Decides.{nat_tests}}
use Rattle.std.proofs.lemmas.List.{append_assoc, append-nil}
use Rattle.hex.specs.Hex.{encode_with, lower_digits}
use Rattle.ppdb_base.specs.Escaped.{is_plain, code_of, escaped_byte, escaped}
use Rattle.ppdb_maps.{specs.Escapes.{IsLowerDigit}, specs.Forms.{AreBytes, IsEscaped}, proofs.Cutting.{end_of_slice}, proofs.OnePass.{after}}

-- ---- digits

abbrev pub digit : ℕ → ℕ
digit d = slice_index lower_digits d

abbrev tested : ℕ → Bool
tested d = digit d == cond (nat_lt d 10) (48 + d) (87 + d)

abbrev all_tested : ℕ → Bool
all_tested zero = true
all_tested (suc n) = tested n && all_tested n

tested_at : (n k : ℕ) → all_tested n ≡ true → k < n → tested k ≡ true
tested_at zero k h lt = absurd (omega arith)
tested_at (suc n) k h lt =
    let parts = and_parts (tested n) (all_tested n) h in
    elim (cases_lt k n) [
      | inl below ↦ tested_at n k parts.1 below
      | inr top ↦
          let e : k ≡ n = omega arith in
          rw e parts.0
    ]

digit_is : (d : ℕ) → d < 16 → digit d ≡ cond (nat_lt d 10) (48 + d) (87 + d)
digit_is d lt = eqb-true (digit d) (cond (nat_lt d 10) (48 + d) (87 + d)) (tested_at 16 d refl lt)

few_is : (d : ℕ) → d < 10 → nat_lt d 10 ≡ true
few_is d lt = grind (arith, nat_tests)

many_is : (d : ℕ) → 10 ≤ d → nat_lt d 10 ≡ false
many_is d le = grind (arith, nat_tests)

digit_few : (d : ℕ) → d < 10 → digit d ≡ 48 + d
digit_few d lt = digit_is d (omega arith) ∙ ap (λ b. cond b (48 + d) (87 + d)) (few_is d lt)

digit_many : (d : ℕ) → 10 ≤ d → d < 16 → digit d ≡ 87 + d
digit_many d le lt = digit_is d lt ∙ ap (λ b. cond b (48 + d) (87 + d)) (many_is d le)

pub digit_lower : (d : ℕ) → d < 16 → IsLowerDigit (digit d) d
digit_lower d lt = elim (cases_lt d 10) [
  | inl few ↦ inl (few, digit_few d few)
  | inr many ↦ inr (many, lt, digit_many d many lt)
]

pub lower_digit_is : (c d : ℕ) → IsLowerDigit c d → c ≡ digit d
lower_digit_is c d (inl h) = h.1 ∙ sym (digit_few d h.0)
lower_digit_is c d (inr h) = h.2 ∙ sym (digit_many d h.0 h.1)

pub lower_below : (c d : ℕ) → IsLowerDigit c d → d < 16
lower_below c d (inl h) = let k = h.0 in omega (arith, k)
lower_below c d (inr h) = h.1

one_lower : (c x y : ℕ) → IsLowerDigit c x → IsLowerDigit c y → x ≡ y
one_lower c x y (inl a) (inl b) = omega (arith, a.1, b.1)
one_lower c x y (inl a) (inr b) = absurd (omega (arith, a.0, a.1, b.0, b.1, b.2))
one_lower c x y (inr a) (inl b) = absurd (omega (arith, b.0, b.1, a.0, a.1, a.2))
one_lower c x y (inr a) (inr b) = omega (arith, a.2, b.2)

one_digit : (x y : ℕ) → x < 16 → y < 16 → digit x ≡ digit y → x ≡ y
one_digit x y a b e = one_lower (digit x) x y (digit_lower x a) (subst (λ c. IsLowerDigit c y) (sym e) (digit_lower y b))

-- ---- a byte

pub code_is : (byte : ℕ) → code_of byte ≡ 92 ∷ 120 ∷ digit (byte / 16) ∷ digit (byte % 16) ∷ []
unfolding encode_with
code_is byte = refl

-- a byte that stands for itself
pub plain_text : (byte : ℕ) → is_plain byte ≡ true → escaped_byte byte ≡ byte ∷ []
plain_text byte is = ap (λ b. if b then byte ∷ [] else code_of byte) is

-- a byte that is spelled by its digits
pub code_text : (byte : ℕ) → is_plain byte ≡ false → escaped_byte byte ≡ 92 ∷ 120 ∷ digit (byte / 16) ∷ digit (byte % 16) ∷ []
code_text byte is = ap (λ b. if b then byte ∷ [] else code_of byte) is ∙ code_is byte

plain_or_code : (b : Bool) → (b ≡ true) ⊎ (b ≡ false)
plain_or_code true = inl refl
plain_or_code false = inr refl

-- the backslash does not stand for itself
pub not_backslash : (byte : ℕ) → is_plain byte ≡ true → byte ≡ 92 → ⊥
not_backslash byte is same = false≢true (subst (λ b. is_plain b ≡ true) same is)

-- what the text of a byte begins with
abbrev pub ByteText : ℕ → List ℕ → List ℕ → Type 0
ByteText byte rest text =
    ((is_plain byte ≡ true) × (text ≡ byte ∷ rest)) ⊎ ((is_plain byte ≡ false) × (text ≡ 92 ∷ 120 ∷ digit (byte / 16) ∷ digit (byte % 16) ∷ rest))

pub byte_text : (byte : ℕ) (rest text : List ℕ) → text ≡ escaped_byte byte ++ rest → ByteText byte rest text
byte_text byte rest text is = elim (plain_or_code (is_plain byte)) [
  | inl plain ↦ inl (plain, is ∙ ap (λ t. t ++ rest) (plain_text byte plain))
  | inr code ↦ inr (code, is ∙ ap (λ t. t ++ rest) (code_text byte code))
]

one_byte : (a b : ℕ) (xs ys : List ℕ) → a < 256 → b < 256 → escaped_byte a ++ xs ≡ escaped_byte b ++ ys → (a ≡ b) × (xs ≡ ys)
one_byte a b xs ys la lb e = of (byte_text a xs (escaped_byte a ++ xs) refl) (byte_text b ys (escaped_byte a ++ xs) e)
  where
    of : ByteText a xs (escaped_byte a ++ xs) → ByteText b ys (escaped_byte a ++ xs) → (a ≡ b) × (xs ≡ ys)
    of (inl p) (inl q) =
        let t : a ∷ xs ≡ b ∷ ys = sym p.1 ∙ q.1 in
        let first : a ≡ b = cc in
        let rest : xs ≡ ys = cc in
        (first, rest)
    of (inl p) (inr q) =
        let t : a ∷ xs ≡ 92 ∷ 120 ∷ digit (b / 16) ∷ digit (b % 16) ∷ ys = sym p.1 ∙ q.1 in
        let first : a ≡ 92 = cc in
        absurd (not_backslash a p.0 first)
    of (inr p) (inl q) =
        let t : b ∷ ys ≡ 92 ∷ 120 ∷ digit (a / 16) ∷ digit (a % 16) ∷ xs = sym q.1 ∙ p.1 in
        let first : b ≡ 92 = cc in
        absurd (not_backslash b q.0 first)
    of (inr p) (inr q) =
        let t : ◌≡◌ {A = List ℕ} (92 ∷ 120 ∷ digit (a / 16) ∷ digit (a % 16) ∷ xs) (92 ∷ 120 ∷ digit (b / 16) ∷ digit (b % 16) ∷ ys) = sym p.1 ∙ q.1 in
        let high : digit (a / 16) ≡ digit (b / 16) = cc in
        let low : digit (a % 16) ≡ digit (b % 16) = cc in
        let rest : xs ≡ ys = cc in
        let h : a / 16 ≡ b / 16 = one_digit (a / 16) (b / 16) (omega arith) (omega arith) high in
        let l : a % 16 ≡ b % 16 = one_digit (a % 16) (b % 16) (omega arith) (omega arith) low in
        (omega (arith, h, l), rest)

-- a byte has a text
byte_some : (byte : ℕ) (rest : List ℕ) → [] ≡ escaped_byte byte ++ rest → ⊥
byte_some byte rest is = of (byte_text byte rest [] is)
  where
    of : ByteText byte rest [] → ⊥
    of (inl h) = let e : ◌≡◌ {A = List ℕ} [] (byte ∷ rest) = h.1 in cc
    of (inr h) = let e : ◌≡◌ {A = List ℕ} [] (92 ∷ 120 ∷ digit (byte / 16) ∷ digit (byte % 16) ∷ rest) = h.1 in cc

-- the text of a byte is not the text of no bytes
byte_not_none : (byte : ℕ) (rest : List ℕ) → codes "\\-" ≡ escaped_byte byte ++ rest → ⊥
byte_not_none byte rest is = of (byte_text byte rest (codes "\\-") is)
  where
    of : ByteText byte rest (codes "\\-") → ⊥
    of (inl h) =
        let e : ◌≡◌ {A = List ℕ} (92 ∷ 45 ∷ []) (byte ∷ rest) = h.1 in
        let first : byte ≡ 92 = cc in
        not_backslash byte h.0 first
    of (inr h) =
        let e : ◌≡◌ {A = List ℕ} (92 ∷ 45 ∷ []) (92 ∷ 120 ∷ digit (byte / 16) ∷ digit (byte % 16) ∷ rest) = h.1 in
        let second : ◌≡◌ {A = ℕ} 45 120 = cc in
        omega (arith, second)

-- ---- the first byte of a text

code_cut : (byte : ℕ) (rest text : List ℕ) → text ≡ code_of byte ++ rest → text ≡ 92 ∷ 120 ∷ digit (byte / 16) ∷ digit (byte % 16) ∷ rest
code_cut byte rest text is = is ∙ ap (λ t. t ++ rest) (code_is byte)

pub code_long : (byte : ℕ) (rest text : List ℕ) → text ≡ code_of byte ++ rest → 4 ≤ length text
code_long byte rest text is = let e = ap length (code_cut byte rest text is) in omega (arith, e)

pub code_high : (byte : ℕ) (rest text : List ℕ) → byte < 256 → text ≡ code_of byte ++ rest → IsLowerDigit (get_or text 2 0) (byte / 16)
code_high byte rest text below is =
    subst (λ c. IsLowerDigit c (byte / 16)) (sym (ap (λ t. get_or t 2 0) (code_cut byte rest text is))) (digit_lower (byte / 16) (omega arith))

pub code_low : (byte : ℕ) (rest text : List ℕ) → text ≡ code_of byte ++ rest → IsLowerDigit (get_or text 3 0) (byte % 16)
code_low byte rest text is =
    subst (λ c. IsLowerDigit c (byte % 16)) (sym (ap (λ t. get_or t 3 0) (code_cut byte rest text is))) (digit_lower (byte % 16) (omega arith))

-- the digits of a code are those of its byte
pub code_one : (byte : ℕ) (rest text : List ℕ) (high low : ℕ) → byte < 256 → text ≡ code_of byte ++ rest → IsLowerDigit (get_or text 2 0) high
    → IsLowerDigit (get_or text 3 0) low → byte ≡ high * 16 + low
code_one byte rest text high low below is h l =
    let a : high ≡ byte / 16 = one_lower (get_or text 2 0) high (byte / 16) h (code_high byte rest text below is) in
    let b : low ≡ byte % 16 = one_lower (get_or text 3 0) low (byte % 16) l (code_low byte rest text is) in
    omega (arith, a, b)

four_are : (text : List ℕ) → 4 ≤ length text → text ≡ get_or text 0 0 ∷ get_or text 1 0 ∷ get_or text 2 0 ∷ get_or text 3 0 ∷ after 4 text
four_are [] long = absurd (omega (arith, long))
four_are (x ∷ []) long = absurd (omega (arith, long))
four_are (x ∷ y ∷ []) long = absurd (omega (arith, long))
four_are (x ∷ y ∷ z ∷ []) long = absurd (omega (arith, long))
four_are (x ∷ y ∷ z ∷ w ∷ rest) long = ap (λ (t : List ℕ). x ∷ y ∷ z ∷ w ∷ t) (sym (end_of_slice 4 (x ∷ y ∷ z ∷ w ∷ rest)))

-- a code that was read
pub code_there : (text : List ℕ) (high low : ℕ) → 4 ≤ length text → get_or text 0 0 ≡ 92 → get_or text 1 0 ≡ 120 → IsLowerDigit (get_or text 2 0) high
    → IsLowerDigit (get_or text 3 0) low → text ≡ code_of (high * 16 + low) ++ after 4 text
code_there text high low long slash letter h l =
    let rest : List ℕ = after 4 text in
    let below = lower_below (get_or text 3 0) low l in
    let hd : high ≡ (high * 16 + low) / 16 = omega (arith, below) in
    let ld : low ≡ (high * 16 + low) % 16 = omega (arith, below) in
    four_are text long
    ∙ ap (λ c. c ∷ get_or text 1 0 ∷ get_or text 2 0 ∷ get_or text 3 0 ∷ rest) slash
    ∙ ap (λ c. 92 ∷ c ∷ get_or text 2 0 ∷ get_or text 3 0 ∷ rest) letter
    ∙ ap (λ c. 92 ∷ 120 ∷ c ∷ get_or text 3 0 ∷ rest) (lower_digit_is (get_or text 2 0) high h ∙ ap digit hd)
    ∙ ap (λ c. 92 ∷ 120 ∷ digit ((high * 16 + low) / 16) ∷ c ∷ rest) (lower_digit_is (get_or text 3 0) low l ∙ ap digit ld)
    ∙ sym (ap (λ t. t ++ rest) (code_is (high * 16 + low)))

pub code_below : (c d high low : ℕ) → IsLowerDigit c high → IsLowerDigit d low → high * 16 + low < 256
code_below c d high low h l = let a = lower_below c high h in let b = lower_below d low l in omega (arith, a, b)

pub plain_below : (byte : ℕ) → is_plain byte ≡ true → byte < 256
plain_below byte is = grind (arith, nat_tests)

first_is : (text : List ℕ) → 1 ≤ length text → text ≡ get_or text 0 0 ∷ after 1 text
first_is [] long = absurd (omega (arith, long))
first_is (x ∷ rest) long = ap (λ (t : List ℕ). x ∷ t) (sym (end_of_slice 1 (x ∷ rest)))

-- a byte that was read
pub plain_there : (text : List ℕ) → 1 ≤ length text → is_plain (get_or text 0 0) ≡ true → text ≡ escaped_byte (get_or text 0 0) ++ after 1 text
plain_there text long plain = first_is text long ∙ sym (ap (λ t. t ++ after 1 text) (plain_text (get_or text 0 0) plain))

pub coded_there : (text : List ℕ) (byte : ℕ) (rest : List ℕ) → is_plain byte ≡ false → text ≡ code_of byte ++ rest → text ≡ escaped_byte byte ++ rest
coded_there text byte rest plain is = is ∙ sym (ap (λ t. t ++ rest) (ap (λ b. if b then byte ∷ [] else code_of byte) plain))

-- no byte comes first
pub no_byte : (text : List ℕ) → is_plain (get_or text 0 0) ≡ false
    → ((byte : ℕ) (rest : List ℕ) → byte < 256 → is_plain byte ≡ false → text ≡ code_of byte ++ rest → ⊥) → (byte : ℕ) (rest : List ℕ) → byte < 256
    → text ≡ escaped_byte byte ++ rest → ⊥
no_byte text plain none byte rest below is = of (is_plain byte) refl
  where
    of : (b : Bool) → is_plain byte ≡ b → ⊥
    of true here =
        let e : text ≡ byte ∷ rest = is ∙ ap (λ t. t ++ rest) (plain_text byte here) in
        let first : get_or text 0 0 ≡ byte = ap (λ t. get_or t 0 0) e in
        false≢true (sym plain ∙ (ap is_plain first ∙ here))
    of false here = none byte rest below here (is ∙ ap (λ t. t ++ rest) (ap (λ b. if b then byte ∷ [] else code_of byte) here))

pub nothing_first : (text : List ℕ) → length text < 1 → (byte : ℕ) (rest : List ℕ) → text ≡ escaped_byte byte ++ rest → ⊥
nothing_first [] short byte rest is = byte_some byte rest is
nothing_first (x ∷ xs) short byte rest is = omega (arith, short)

pub none_then : {X : Type 0} {P Q : Type 0} (r : Option X) → IfNone r P → (P → Q) → IfNone r Q
none_then None h f = f h
none_then (Some x) h f = tt

-- ---- bytes

abbrev pub text_of : List ℕ → List ℕ
text_of bytes = flat_map escaped_byte bytes

one_text : (xs ys : List ℕ) → AreBytes xs → AreBytes ys → text_of xs ≡ text_of ys → xs ≡ ys
one_text [] [] a b e = refl
one_text [] (y ∷ ys) a b e = absurd (byte_some y (text_of ys) e)
one_text (x ∷ xs) [] a b e = absurd (byte_some x (text_of xs) (sym e))
one_text (x ∷ xs) (y ∷ ys) a b e =
    let h = one_byte x y (text_of xs) (text_of ys) a.0 b.0 e in
    ap (λ z. z ∷ xs) h.0 ∙ ap (λ zs. y ∷ zs) (one_text xs ys a.1 b.1 h.1)

one_escaped : (xs ys : List ℕ) → AreBytes xs → AreBytes ys → escaped xs ≡ escaped ys → xs ≡ ys
one_escaped [] [] a b e = refl
one_escaped [] (y ∷ ys) a b e = absurd (byte_not_none y (text_of ys) e)
one_escaped (x ∷ xs) [] a b e = absurd (byte_not_none x (text_of xs) (sym e))
one_escaped (x ∷ xs) (y ∷ ys) a b e = one_text (x ∷ xs) (y ∷ ys) a b e

-- a word is the spelling of one list of bytes
pub one_spelling : (word xs ys : List ℕ) → IsEscaped word xs → IsEscaped word ys → xs ≡ ys
one_spelling word xs ys a b = one_escaped xs ys a.within b.within (sym a.spelled ∙ b.spelled)

-- ---- a word that is read byte by byte

pub bytes_more : (bytes : List ℕ) (b : ℕ) → AreBytes bytes → b < 256 → AreBytes (bytes ++ b ∷ [])
bytes_more [] b all lt = (lt, tt)
bytes_more (x ∷ xs) b all lt = (all.0, bytes_more xs b all.1 lt)

text_more : (bytes : List ℕ) (b : ℕ) (others : List ℕ) → text_of bytes ++ (escaped_byte b ++ others) ≡ text_of (bytes ++ b ∷ []) ++ others
text_more [] b others = ap (λ t. t ++ others) (sym (append-nil (escaped_byte b)))
text_more (x ∷ xs) b others =
    append_assoc (escaped_byte x) (text_of xs) (escaped_byte b ++ others)
    ∙ ap (λ t. escaped_byte x ++ t) (text_more xs b others)
    ∙ sym (append_assoc (escaped_byte x) (text_of (xs ++ b ∷ [])) others)

pub none_left : (xs : List ℕ) → true ≡ (length xs == 0) → xs ≡ []
none_left [] is = refl
none_left (x ∷ xs) is = let e : length (x ∷ xs) ≡ 0 = eqb-true (length (x ∷ xs)) 0 (sym is) in absurd (omega (arith, e))

-- what was read of a word, when `rest` is left
pub record ReadBytes (word bytes rest : List ℕ) : Type 0 where
  pub text : word ≡ text_of bytes ++ rest
  pub within : AreBytes bytes

pub read_more : (word bytes rest others : List ℕ) (b : ℕ) → ReadBytes word bytes rest → b < 256 → rest ≡ escaped_byte b ++ others
    → ReadBytes word (bytes ++ b ∷ []) others
read_more word bytes rest others b so lt is = record {
  text = so.text ∙ (ap (λ t. text_of bytes ++ t) is ∙ text_more bytes b others);
  within = bytes_more bytes b so.within lt;
}

-- a word that is read to its end
pub read_whole : (word bytes rest : List ℕ) → ReadBytes word bytes rest → rest ≡ [] → (word ≡ [] → ⊥) → IsEscaped word bytes
read_whole word [] rest so end some = absurd (some (so.text ∙ end))
read_whole word (b ∷ bs) rest so end some =
    record { spelled = so.text ∙ (ap (λ t. text_of (b ∷ bs) ++ t) end ∙ append-nil (text_of (b ∷ bs))); within = so.within }

-- what is left of bytes after those that were read
left_over : (bytes bs rest : List ℕ) → AreBytes bytes → AreBytes bs → text_of bytes ++ rest ≡ text_of bs
    → (more : List ℕ) × AreBytes more × (rest ≡ text_of more)
left_over [] bs rest a b e = (bs, b, e)
left_over (x ∷ xs) [] rest a b e = absurd (byte_some x (text_of xs ++ rest) (sym e ∙ append_assoc (escaped_byte x) (text_of xs) rest))
left_over (x ∷ xs) (y ∷ ys) rest a b e =
    let h = one_byte x y (text_of xs ++ rest) (text_of ys) a.0 b.0 (sym (append_assoc (escaped_byte x) (text_of xs) rest) ∙ e) in
    left_over xs ys rest a.1 b.1 h.1

-- where no byte comes next, the word spells no bytes
pub read_no_more : (word bytes rest bs : List ℕ) → ReadBytes word bytes rest → (word ≡ codes "\\-" → ⊥) → (rest ≡ [] → ⊥)
    → ((byte : ℕ) (others : List ℕ) → byte < 256 → rest ≡ escaped_byte byte ++ others → ⊥) → IsEscaped word bs → ⊥
read_no_more word bytes rest [] so other some none is = other is.spelled
read_no_more word bytes rest (b ∷ bs) so other some none is =
    let h = left_over bytes (b ∷ bs) rest so.within is.within (sym so.text ∙ is.spelled) in by h.0 h.1 h.2
  where
    by : (more : List ℕ) → AreBytes more → rest ≡ text_of more → ⊥
    by [] all e = some e
    by (m ∷ ms) all e = none m (text_of ms) all.0 e
