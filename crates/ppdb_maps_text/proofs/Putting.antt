-- What is put one after the other is put as one text.
use Rattle.std.proofs.Common.{ℕ, zero, suc, ◌≡◌, ◌+◌, ◌<◌, ◌++◌, List, [], ◌∷◌, length, get_or, map, take, sym, ap, ◌∙◌, arith, add-one, subst, Result, Ok, Err}
use Rattle.std.{proofs.Common.{OnOk}, specs.Fmt.{decimal}, proofs.Math.Seq.{take-length}, proofs.lemmas.List.{append_assoc, append-nil, length-append}}
use Rattle.ppdb_maps_text.specs.{declared.counted.Counted.{Counted}, MapTexts.{spaced, ended}, Putting.{Puts}}

pub puts_then : (old mid new : Counted) (s t : List ℕ) → Puts old mid s → Puts mid new t → Puts old new (s ++ t)
puts_then old mid new s t h k =
    let first = h.counted in
    let second = k.counted in
    let both = length-append s t in
    record {
      counted = omega (arith, first, second, both);
      kept = λ few. k.kept few ∙ (ap (λ prefix. prefix ++ t) (h.kept (omega (arith, few, first, second))) ∙ append_assoc old.text s t);
    }

-- one number more
spaced_next : (word numbers : List ℕ) (i : ℕ) → i < length numbers
    → spaced word (map decimal (take (suc i) numbers)) ≡ spaced word (map decimal (take i numbers)) ++ (32 ∷ decimal (get_or numbers i 0))
spaced_next word [] i within = absurd (omega (arith, within))
spaced_next word (n ∷ numbers) zero within =
    ap (λ digits. word ++ 32 ∷ digits) (append-nil (decimal n)) ∙ ap (λ prefix. prefix ++ (32 ∷ decimal n)) (sym (append-nil word))
spaced_next word (n ∷ numbers) (suc i) within =
    ap (λ rest. word ++ 32 ∷ rest) (spaced_next (decimal n) numbers i (omega (arith, within)))
    ∙ sym (append_assoc word (32 ∷ spaced (decimal n) (map decimal (take i numbers))) (32 ∷ decimal (get_or numbers i 0)))

pub puts_none : (old new : Counted) (word numbers : List ℕ) → Puts old new word → Puts old new (spaced word (map decimal (take 0 numbers)))
puts_none old new word numbers put = subst (Puts old new) (sym (append-nil word)) put

pub puts_number : (old mid new : Counted) (word numbers : List ℕ) (i : ℕ) → i < length numbers
    → Puts old mid (spaced word (map decimal (take i numbers))) → Puts mid new (32 ∷ decimal (get_or numbers i 0))
    → Puts old new (spaced word (map decimal (take (i + 1) numbers)))
puts_number old mid new word numbers i within before put =
    subst (λ j. Puts old new (spaced word (map decimal (take j numbers)))) (sym (add-one i))
    (subst (Puts old new) (sym (spaced_next word numbers i within)) (puts_then old mid new _ _ before put))

pub puts_all : (old new : Counted) (word numbers : List ℕ) → Puts old new (spaced word (map decimal (take (length numbers) numbers)))
    → Puts old new (spaced word (map decimal numbers))
puts_all old new word numbers put = subst (λ ns. Puts old new (spaced word (map decimal ns))) (take-length numbers) put

-- a line of words that are put one by one
pub puts_words : (a b d e f : Counted) (word x y : List ℕ) → Puts a b word → Puts b d (32 ∷ x) → Puts d e (32 ∷ y) → Puts e f (10 ∷ [])
    → Puts a f (ended (spaced word (x ∷ y ∷ [])))
puts_words a b d e f word x y first second third end =
    subst (Puts a f)
    (sym (append_assoc word ((32 ∷ x) ++ ((32 ∷ y) ++ [])) (10 ∷ [])
    ∙ ap (λ t. word ++ t) (append_assoc (32 ∷ x) ((32 ∷ y) ++ []) (10 ∷ [])
    ∙ ap (λ t. (32 ∷ x) ++ (t ++ 10 ∷ [])) (append-nil (32 ∷ y)))))
    (puts_then a b f word ((32 ∷ x) ++ ((32 ∷ y) ++ 10 ∷ [])) first
    (puts_then b d f (32 ∷ x) ((32 ∷ y) ++ 10 ∷ []) second (puts_then d e f (32 ∷ y) (10 ∷ []) third end)))

pub ok_then : {T E : Type 0} {P Q : Type 0} (r : Result T E) → OnOk r P → (P → Q) → OnOk r Q
ok_then (Ok x) h f = f h
ok_then (Err e) h f = tt
