-- The order of fields.
use Rattle.std.proofs.{Common.{◌≡◌, ℕ, ◌+◌, ◌<◌, ◌≤◌, List, [], ◌∷◌, ◌++◌, sum, sym, ap, ◌∙◌, arith}, lemmas.List.Sums.{sum_by-append}}
use Rattle.ppdb_base.specs.Fields.{IsField}

pub sum_cons : (x : ℕ) (xs : List ℕ) → sum (x ∷ xs) ≡ x + sum xs
sum_cons x xs = sum_by-append (λ n. n) (x ∷ []) xs ∙ omega arith

pub sum_append : (xs ys : List ℕ) → sum (xs ++ ys) ≡ sum xs + sum ys
sum_append xs ys = sum_by-append (λ n. n) xs ys

-- of two cuts of one list, a field that begins before the second ends not after it
ends_before : (b a before after : List ℕ) (len : ℕ) → b ++ (len ∷ a) ≡ before ++ after → sum b < sum before → sum b + len ≤ sum before
ends_before b a [] after len e lt = absurd (omega (arith, lt))
ends_before [] a (y ∷ ys) after len e lt =
    let h : len ≡ y = cc in omega (arith, h, sum_cons y ys)
ends_before (x ∷ xs) a (y ∷ ys) after len e lt =
    let h : x ≡ y = cc in
    let t : xs ++ (len ∷ a) ≡ ys ++ after = cc in
    let rest = ends_before xs a ys after len t (omega (arith, h, lt, sum_cons x xs, sum_cons y ys)) in
    omega (arith, h, rest, sum_cons x xs, sum_cons y ys)

-- a field that begins before a cut of the fields ends not after it
pub ends_by_cut : (fields before after : List ℕ) (at len : ℕ) → IsField fields at len → fields ≡ before ++ after → at < sum before → at + len ≤ sum before
ends_by_cut fields before after at len f cut lt =
    let e = ends_before f.before f.after before after len (sym f.in_order ∙ cut) (omega (arith, f.place, lt)) in
    omega (arith, f.place, e)

-- a field ends within the fields
pub ends_within : (fields : List ℕ) (at len : ℕ) → IsField fields at len → at + len ≤ sum fields
ends_within fields at len f =
    omega (arith, f.place, ap sum f.in_order, sum_append f.before (len ∷ f.after), sum_cons len f.after)
