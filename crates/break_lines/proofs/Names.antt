-- A name compared part by part.
use Rattle.std.proofs.Common.{◌≡◌, ℕ, ◌+◌, ◌∙◌, Bool, true, false, Option, Some, None, Bor, List, [], ◌∷◌, ◌++◌, length, take, drop, refl, sym, ap, subst}
use Rattle.std.{proofs.Common.{append_assoc, arith}, specs.Prelude.{nat_eq, ◌&&◌, MatchOption}, specs.Cmp.Lexicographic.{pointwise}, specs.List.{flat_map}}
use Rattle.std.{specs.Str.{bytes_eq}, proofs.lemmas.Bool.Decides.{nat_tests}}
use Rattle.break_lines.specs.Laws.{parts_after, NamesArePartsAfter}

others_after : (separator : List ℕ) (parts : List (List ℕ)) → flat_map (λ part. separator ++ part) parts ≡ parts_after separator separator parts
others_after separator [] = refl
others_after separator (part ∷ parts) = ap (λ l. (separator ++ part) ++ l) (others_after separator parts)

pub names_are_parts : NamesArePartsAfter
names_are_parts separator [] = refl
names_are_parts separator (part ∷ parts) = ap (λ l. part ++ l) (others_after separator parts)

same_byte : (p t : ℕ) (a b c : Bool) → (nat_eq t p && a) ≡ true → (a ≡ true → b ≡ c) → (nat_eq p t && b) ≡ c
same_byte p t true b c h rest = let e = rest refl in grind (arith, nat_tests)
same_byte p t false b c h rest = grind (arith, nat_tests)

other_byte : (p t : ℕ) (a b : Bool) → (nat_eq t p && a) ≡ false → (a ≡ false → b ≡ false) → (nat_eq p t && b) ≡ false
other_byte p t true b h rest = grind (arith, nat_tests)
other_byte p t false b h rest = let e = rest refl in grind (arith, nat_tests)

-- a text that begins with a prefix is that prefix and the rest
pub begun : (prefix text more : List ℕ) → pointwise nat_eq (take (length prefix) text) prefix ≡ true
    → bytes_eq (prefix ++ more) text ≡ bytes_eq more (drop (length prefix) text)
begun [] text more h = refl
begun (p ∷ ps) [] more h = absurd (cc)
begun (p ∷ ps) (t ∷ ts) more h = same_byte p t (pointwise nat_eq (take (length ps) ts) ps) (bytes_eq (ps ++ more) ts) (bytes_eq more (drop (length ps) ts)) h
    (begun ps ts more)

pub not_begun : (prefix text more : List ℕ) → pointwise nat_eq (take (length prefix) text) prefix ≡ false → bytes_eq (prefix ++ more) text ≡ false
not_begun [] text more h = absurd (cc)
not_begun (p ∷ ps) [] more h = refl
not_begun (p ∷ ps) (t ∷ ts) more h = other_byte p t (pointwise nat_eq (take (length ps) ts) ps) (bytes_eq (ps ++ more) ts) h (not_begun ps ts more)

-- two prefixes, one after the other
pub both_begun : (a b text more : List ℕ) → pointwise nat_eq (take (length a) text) a ≡ true
    → pointwise nat_eq (take (length b) (drop (length a) text)) b ≡ true
    → bytes_eq ((a ++ b) ++ more) text ≡ bytes_eq more (drop (length b) (drop (length a) text))
both_begun a b text more first second = ap (λ l. bytes_eq l text) (append_assoc a b more) ∙ begun a text (b ++ more) first
    ∙ begun b (drop (length a) text) more second

pub first_not : (a b text more : List ℕ) → pointwise nat_eq (take (length a) text) a ≡ false → bytes_eq ((a ++ b) ++ more) text ≡ false
first_not a b text more first = ap (λ l. bytes_eq l text) (append_assoc a b more) ∙ not_begun a text (b ++ more) first

pub second_not : (a b text more : List ℕ) → pointwise nat_eq (take (length a) text) a ≡ true
    → pointwise nat_eq (take (length b) (drop (length a) text)) b ≡ false → bytes_eq ((a ++ b) ++ more) text ≡ false
second_not a b text more first second = ap (λ l. bytes_eq l text) (append_assoc a b more) ∙ begun a text (b ++ more) first
    ∙ not_begun b (drop (length a) text) more second

-- what follows two prefixes, the second being looked for after the first
pub second_prefix : (a b text rest : List ℕ) (r : Option (Bor (List ℕ))) → pointwise nat_eq (take (length a) text) a ≡ true → rest ≡ drop (length a) text
    → MatchOption r (pointwise nat_eq (take (length b) rest) b ≡ false)
    (λ x. (pointwise nat_eq (take (length b) rest) b ≡ true) × (x.now ≡ drop (length b) rest) × (length x.now + length b ≡ length rest))
    → MatchOption r ((more : List ℕ) → bytes_eq ((a ++ b) ++ more) text ≡ false)
    (λ x. (more : List ℕ) → bytes_eq ((a ++ b) ++ more) text ≡ bytes_eq more x.now)
second_prefix a b text rest None first is h = λ more. second_not a b text more first (subst (λ l. pointwise nat_eq (take (length b) l) b ≡ false) is h)
second_prefix a b text rest (Some x) first is h = λ more.
    both_begun a b text more first (subst (λ l. pointwise nat_eq (take (length b) l) b ≡ true) is h.0)
    ∙ ap (λ l. bytes_eq more l) (ap (λ l. drop (length b) l) (sym is) ∙ sym h.1)
