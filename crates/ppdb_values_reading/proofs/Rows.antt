-- Rows of a table, and what is made of them, row after row.
use Rattle.std.proofs.Common.{◌≡◌, ℕ, zero, suc, ◌+◌, ◌-◌, ◌≤◌, ◌<◌, List, [], ◌∷◌, ◌++◌, length, take, drop, map, refl, sym, ap, ◌∙◌, arith, inl, inr, slice_get}
use Rattle.std.{specs.Prelude.{Option, Some, None}, specs.List.{enumerate_from, filter_map}, specs.Option.{option_map}, proofs.lemmas.List.{take_all}}
use Rattle.std.proofs.lemmas.{List.Elements.{filter_map-append}, Option.{slice_get_cases, slice_get_within}}
use Rattle.ppdb_tables.specs.RawTables.{numbered, row_at}
use Rattle.ppdb_values.proofs.Mapped.{row_map}

-- the row of what is made of each
pub row_made : {X Y : Type 0} (f : X → Y) (xs : List X) (row : ℕ) (x : X) → row_at xs row ≡ Some x → row_at (map f xs) row ≡ Some (f x)
row_made f xs row x there = row_map f xs row ∙ ap (option_map f) there

pub row_past : {X : Type 0} (rows : List X) (row : ℕ) → length rows < row → row_at rows row ≡ None
row_past rows zero h = absurd (omega (arith, h))
row_past rows (suc i) h = elim (slice_get_cases rows i).1 [
  | inl x ↦ let in_range = slice_get_within rows i x.0 x.2 in absurd (omega (arith, h, in_range))
  | inr past ↦ past.1
]

-- ---- the rows up to one

take_get : {X : Type 0} (xs : List X) (i : ℕ) (x : X) → slice_get xs i ≡ Some x → take (suc i) xs ≡ take i xs ++ x ∷ []
take_get [] i x e = cc
take_get {X} (y ∷ ys) zero x e = let same : y ≡ x = cc in ap (λ (z : X). z ∷ []) same
take_get {X} (y ∷ ys) (suc i) x e = ap (λ (zs : List X). y ∷ zs) (take_get ys i x e)

-- the rows before one, and that row
pub take_row : {X : Type 0} (xs : List X) (row : ℕ) (x : X) → row_at xs row ≡ Some x → take (row + 1 - 1) xs ≡ take (row - 1) xs ++ x ∷ []
take_row xs zero x e = cc
take_row xs (suc i) x e =
    let up : suc i + 1 - 1 ≡ suc i = omega arith in
    let down : suc i - 1 ≡ i = omega arith in
    rw (up, down) (take_get xs i x e)

-- what was made of the rows before one, with what is made of that row
pub made_more : {X : Type 0} (xs made more : List X) (row : ℕ) (x : X) → row_at xs row ≡ Some x → made ≡ take (row - 1) xs → more ≡ made ++ x ∷ []
    → more ≡ take (row + 1 - 1) xs
made_more {X} xs made more row x there same pushed = pushed ∙ ap (λ (ys : List X). ys ++ x ∷ []) same ∙ sym (take_row xs row x there)

-- all rows were made
pub made_all : {X : Type 0} (xs made : List X) (row : ℕ) → length xs < row → made ≡ take (row - 1) xs → made ≡ xs
made_all xs made row past same = same ∙ take_all (row - 1) xs (omega (arith, past))

-- ---- rows with their numbers

numbered_get : {X : Type 0} (n : ℕ) (xs : List X) (i : ℕ) (x : X) → slice_get xs i ≡ Some x → slice_get (enumerate_from n xs) i ≡ Some (n + i, x)
numbered_get n [] i x e = cc
numbered_get {X} n (y ∷ ys) zero x e =
    let same : y ≡ x = cc in
    let here : n ≡ n + 0 = omega arith in
    ap (λ (z : X). Some (n, z)) same ∙ ap (λ (m : ℕ). Some (m, x)) here
numbered_get n (y ∷ ys) (suc i) x e = let s : n + suc i ≡ n + 1 + i = omega arith in rw s (numbered_get (n + 1) ys i x e)

pub numbered_row : {X : Type 0} (xs : List X) (row : ℕ) (x : X) → row_at xs row ≡ Some x → row_at (numbered xs) row ≡ Some (row, x)
numbered_row xs zero x e = cc
numbered_row xs (suc i) x e = let s : suc i ≡ 1 + i = omega arith in numbered_get 1 xs i x e ∙ ap (λ (n : ℕ). Some (n, x)) (sym s)

pub length-numbered : {X : Type 0} (n : ℕ) (xs : List X) → length (enumerate_from n xs) ≡ length xs
length-numbered n [] = refl
length-numbered n (x ∷ xs) = ap (λ (m : ℕ). suc m) (length-numbered (n + 1) xs)

drop_get : {X : Type 0} (xs : List X) (i : ℕ) (x : X) → slice_get xs i ≡ Some x → drop i xs ≡ x ∷ drop (suc i) xs
drop_get [] i x e = cc
drop_get {X} (y ∷ ys) zero x e = let same : y ≡ x = cc in ap (λ (z : X). z ∷ ys) same
drop_get (y ∷ ys) (suc i) x e = drop_get ys i x e

drop_row : {X : Type 0} (xs : List X) (row : ℕ) (x : X) → row_at xs row ≡ Some x → drop (row - 1) xs ≡ x ∷ drop (row + 1 - 1) xs
drop_row xs zero x e = cc
drop_row xs (suc i) x e =
    let up : suc i + 1 - 1 ≡ suc i = omega arith in
    let down : suc i - 1 ≡ i = omega arith in
    rw (up, down) (drop_get xs i x e)

-- a row that is there is the first of the rows from it on
pub from_row : {X : Type 0} (xs : List X) (row : ℕ) (x : X) → row_at xs row ≡ Some x
    → drop (row - 1) (numbered xs) ≡ (row, x) ∷ drop (row + 1 - 1) (numbered xs)
from_row xs row x there = drop_row (numbered xs) row (row, x) (numbered_row xs row x there)

drop_past : {X : Type 0} (xs : List X) (i : ℕ) → length xs ≤ i → drop i xs ≡ []
drop_past [] zero h = refl
drop_past [] (suc i) h = refl
drop_past (x ∷ xs) zero h = absurd (omega arith)
drop_past (x ∷ xs) (suc i) h = drop_past xs i (omega (arith, h))

get_none : {X : Type 0} (xs : List X) (i : ℕ) → slice_get xs i ≡ None → length xs ≤ i
get_none [] i e = omega arith
get_none (x ∷ xs) zero e = cc
get_none (x ∷ xs) (suc i) e = omega (arith, get_none xs i e)

-- past the last row there is none
pub from_past : {X : Type 0} (xs : List X) (row : ℕ) → 1 ≤ row → row_at xs row ≡ None → drop (row - 1) (numbered xs) ≡ []
from_past xs zero low e = absurd (omega (arith, low))
from_past xs (suc i) low e =
    let down : suc i - 1 ≡ i = omega arith in
    let past = get_none xs i e in
    rw down (drop_past (numbered xs) i (omega (arith, past, length-numbered 1 xs)))

pub length-from : {X : Type 0} (xs : List X) (i : ℕ) → length (drop i xs) ≡ length xs - i
length-from [] zero = refl
length-from [] (suc i) = omega arith
length-from (x ∷ xs) zero = omega arith
length-from (x ∷ xs) (suc i) = omega (arith, length-from xs i)

-- ---- rows that may give nothing

-- what the rows before one give, with what that row gives
pub given_more : {X Y : Type 0} (f : ℕ × X → Option Y) (xs : List X) (made : List Y) (row : ℕ) (x : X) → row_at xs row ≡ Some x
    → made ≡ filter_map f (take (row - 1) (numbered xs)) → made ++ filter_map f ((row, x) ∷ []) ≡ filter_map f (take (row + 1 - 1) (numbered xs))
given_more {X} {Y} f xs made row x there same =
    ap (λ (ys : List Y). ys ++ filter_map f ((row, x) ∷ [])) same
    ∙ sym (filter_map-append f (take (row - 1) (numbered xs)) ((row, x) ∷ []))
    ∙ ap (λ (rows : List (ℕ × X)). filter_map f rows) (sym (take_row (numbered xs) row (row, x) (numbered_row xs row x there)))

pub given_all : {X Y : Type 0} (f : ℕ × X → Option Y) (xs : List X) (made : List Y) (row : ℕ) → length xs < row
    → made ≡ filter_map f (take (row - 1) (numbered xs)) → made ≡ filter_map f (numbered xs)
given_all {X} f xs made row past same =
    same ∙ ap (λ (rows : List (ℕ × X)). filter_map f rows) (take_all (row - 1) (numbered xs) (omega (arith, past, length-numbered 1 xs)))
