-- How decimal numbers below 2^32 are spelled, and what a table's two digits say.
use Rattle.std.proofs.Common.{zero, suc, ◌≡◌, ℕ, ◌+◌, ◌*◌, ◌<◌, ◌≤◌, ◌^◌, ◌≢◌, List, [], ◌∷◌, length, get_or, sym, ap, ◌∙◌, subst, arith, Result, Ok, Err, IfSome}
use Rattle.std.{proofs.Common.{IfNone}, specs.Fmt.{decimal}, specs.Result.{result_ok, OkIff}, specs.Char.{digit_value}, specs.Str.Parse.{AllDigits, IsNumeral}}
use Rattle.std.{specs.Str.Parse.{digits_value}, proofs.lemmas.Bool.Decides.{nat_tests}, proofs.lemmas.Str.Parse.{IsNumeralModel, numerals_by_value, tells_digits}}
use Rattle.std.proofs.lemmas.{Str.Parse.{digits_value_short}, Fmt.{digits_decimal, digits_value-decimal, length-decimal-le, decimal_nonempty, first_decimal}}
use Rattle.std.proofs.lemmas.Fmt.{decimal_digit, decimal-digits_value, decimal_injective}
use Rattle.ppdb_maps.specs.{Spelling.{MaySpell, IsHexDigit}, Forms.{IsNumber, IsTable}}

pub numerals : IsNumeralModel (AllDigits 10) (digits_value 10)
numerals = numerals_by_value (AllDigits 10) tells_digits

-- nine digits are below 10^9
pub nine_digits : (ds : List ℕ) → AllDigits 10 ds → length ds ≤ 9 → digits_value 10 ds < 1000000000
nine_digits ds all few = digits_value_short numerals ds 9 all few

may_spell_from : (word : List ℕ) → 0 < length word → length word ≤ 10 → (1 < length word → get_or word 0 0 ≢ 48) → MaySpell word
may_spell_from [] some few first = absurd (omega arith)
may_spell_from (b ∷ []) some few first = tt
may_spell_from (b ∷ c ∷ cs) some few first = (first (omega arith), few)

-- a decimal number may be spelled so
pub may_spell_decimal : (n : ℕ) → n < 2 ^ 32 → MaySpell (decimal n)
may_spell_decimal n below =
    may_spell_from (decimal n) (decimal_nonempty n (omega arith)) (length-decimal-le 10 n (omega arith) (omega arith) (omega arith)) (first n below)
  where
    first : (n : ℕ) → n < 2 ^ 32 → 1 < length (decimal n) → get_or (decimal n) 0 0 ≢ 48
    first zero below long = let e : length (decimal 0) ≡ 1 = ap length (decimal_digit 0 (omega arith)) in absurd (omega (arith, e))
    first (suc n) below long = let h : 48 < get_or (decimal (suc n)) 0 0 = first_decimal (suc n) (omega arith) (omega arith) in omega (arith, h)

-- digits that may be spelled so are the decimal number of their value
pub decimal_of_digits : (word : List ℕ) → MaySpell word → AllDigits 10 word → digits_value 10 word < 2 ^ 64 → word ≡ decimal (digits_value 10 word)
decimal_of_digits word may all below = sym (decimal-digits_value numerals word all (some word may) (short word may) below)
  where
    some : (word : List ℕ) → MaySpell word → 0 < length word
    some [] may = absurd may
    some (b ∷ bs) may = omega arith

    short : (word : List ℕ) → MaySpell word → get_or word 0 0 ≡ 48 → length word ≡ 1
    short [] may first = absurd may
    short (b ∷ []) may first = omega arith
    short (b ∷ c ∷ cs) may first = absurd (may.0 first)

pub length_may_spell : (word : List ℕ) → MaySpell word → length word ≤ 10
length_may_spell [] may = absurd may
length_may_spell (b ∷ []) may = omega arith
length_may_spell (b ∷ c ∷ cs) may = may.1

-- the digits of a decimal number, and their value
pub all_digits_decimal : (n : ℕ) (word : List ℕ) → n < 2 ^ 32 → word ≡ decimal n → AllDigits 10 word
all_digits_decimal n word below is = subst (λ w. AllDigits 10 w) (sym is) (digits_decimal numerals n (omega arith))

pub value_decimal : (n : ℕ) (word : List ℕ) → n < 2 ^ 32 → word ≡ decimal n → digits_value 10 word ≡ n
value_decimal n word below is = subst (λ w. digits_value 10 w ≡ n) (sym is) (digits_value-decimal numerals n (omega arith))

pub may_spell_word : (n : ℕ) (word : List ℕ) → n < 2 ^ 32 → word ≡ decimal n → MaySpell word
may_spell_word n word below is = subst (λ w. MaySpell w) (sym is) (may_spell_decimal n below)

-- a word spells one number
pub one_number : (word : List ℕ) (least most m n : ℕ) → most < 2 ^ 32 → IsNumber word least most m → IsNumber word least most n → m ≡ n
one_number word least most m n below a b =
    decimal_injective m n (let h : m ≤ most = a.to in omega (arith, h)) (let h : n ≤ most = b.to in omega (arith, h)) (cc (a.spelled, b.spelled))

-- what a digit says is its value
digit_is : (c d : ℕ) → IsHexDigit c d → digit_value c ≡ d
digit_is c d h = grind (arith, nat_tests, h)

digit_small : (c d : ℕ) → IsHexDigit c d → digit_value c < 16
digit_small c d h = grind (arith, nat_tests, h)

digit_from : (c : ℕ) → digit_value c < 16 → IsHexDigit c (digit_value c)
digit_from c h = grind (arith, nat_tests, h)

-- the two digits of a table
pub record TableDigits (word : List ℕ) (table : ℕ) : Type 0 where
  pub high : ℕ
  pub low : ℕ
  pub c : ℕ
  pub d : ℕ
  pub spelled : word ≡ c ∷ d ∷ []
  pub digits : IsHexDigit c high × IsHexDigit d low
  pub is : table ≡ high * 16 + low
  pub known : table ≤ 0x2c

pub table_of_digits : (word : List ℕ) (table : ℕ) → TableDigits word table → IsTable word table
table_of_digits word table a = (
  record {
    digits = a.c ∷ a.d ∷ [];
    spelled = a.spelled;
    from = omega arith;
    to = omega arith;
    numeral = (omega arith, (digit_small a.c a.high a.digits.0, (digit_small a.d a.low a.digits.1, tt)));
    is = value (digit_value a.c) (digit_value a.d) (digit_is a.c a.high a.digits.0) (digit_is a.d a.low a.digits.1);
  },
  a.known,
)
  where
    value : (c d : ℕ) → c ≡ a.high → d ≡ a.low → table ≡ (0 * 16 + c) * 16 + d
    value c d high low = let is = a.is in omega (arith, is, high, low)

pub digits_of_table : (word : List ℕ) (table : ℕ) → IsTable word table → TableDigits word table
digits_of_table word table is = of is.0.digits is.0.spelled is.0.from is.0.to is.0.numeral is.0.is
  where
    value : (c d : ℕ) → table ≡ (0 * 16 + c) * 16 + d → table ≡ c * 16 + d
    value c d e = omega (arith, e)

    of : (ds : List ℕ) → word ≡ ds → 2 ≤ length ds → length ds ≤ 2 → IsNumeral 16 ds → table ≡ digits_value 16 ds → TableDigits word table
    of [] e low high numeral says = absurd (omega (arith, low))
    of (c ∷ []) e low high numeral says = absurd (omega (arith, low))
    of (c ∷ d ∷ []) e low high numeral says = record {
      high = digit_value c;
      low = digit_value d;
      c = c;
      d = d;
      spelled = e;
      digits = (digit_from c numeral.1.0, digit_from d numeral.1.1.0);
      is = value (digit_value c) (digit_value d) says;
      known = is.1;
    }
    of (c ∷ d ∷ f ∷ ds) e low high numeral says = absurd (omega (arith, high))

-- a word is one table
pub one_table : (word : List ℕ) (m n : ℕ) → IsTable word m → IsTable word n → m ≡ n
one_table word m n a b =
    a.0.is ∙ ap (digits_value 16) (sym a.0.spelled ∙ b.0.spelled) ∙ sym b.0.is

-- what `try_from` and `ok` answer of a number that a word spells
pub spelled_or_none : {E : Type 0} (r : Result ℕ E) (v : ℕ) (word : List ℕ) → OkIff r (v < 2 ^ 32) v → word ≡ decimal v
    → IfSome (result_ok r) (λ n. word ≡ decimal n)
spelled_or_none (Ok n) v word is spelled = subst (λ k. word ≡ decimal k) (sym is.1) spelled
spelled_or_none (Err e) v word is spelled = tt

pub none_is_above : {E : Type 0} (r : Result ℕ E) (v : ℕ) (word : List ℕ) → OkIff r (v < 2 ^ 32) v → digits_value 10 word ≡ v
    → IfNone (result_ok r) ((n : ℕ) → n < 2 ^ 32 → word ≡ decimal n → ⊥)
none_is_above (Ok n) v word is value = tt
none_is_above (Err e) v word is value = λ n below spelled. is (let h : digits_value 10 word ≡ n = value_decimal n word below spelled in omega (arith, h, value))

-- the digit at a place of a table
pub digit_there : (word : List ℕ) (c d x : ℕ) → word ≡ c ∷ d ∷ [] → IsHexDigit c x → IsHexDigit (get_or word 0 0) x
digit_there word c d x is digit = subst (λ k. IsHexDigit k x) (sym (ap (λ w. get_or w 0 0) is)) digit

pub digit_after : (word : List ℕ) (c d x : ℕ) → word ≡ c ∷ d ∷ [] → IsHexDigit d x → IsHexDigit (get_or word 1 0) x
digit_after word c d x is digit = subst (λ k. IsHexDigit k x) (sym (ap (λ w. get_or w 1 0) is)) digit
