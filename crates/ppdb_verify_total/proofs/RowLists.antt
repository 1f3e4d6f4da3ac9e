-- The lists that the rows of a table answer, one after the other.
use Rattle.std.proofs.Common.{◌≡◌, ℕ, zero, suc, ◌+◌, ◌-◌, ◌<◌, ◌≤◌, List, [], ◌∷◌, ◌++◌, length, map, drop, slice_get, Some, refl, sym, ap, ◌∙◌, arith}
use Rattle.std.{proofs.lemmas.List.{length-map}, proofs.lemmas.List.FromFn.{length-enumerate_from}, specs.List.{flat_map, enumerate_from}}
use Rattle.ppdb_tables.specs.RawTables.{numbered, row_at}

-- what the rows from one on answer
abbrev pub from_row : {R : Type 0} → ℕ → List (List R) → List R
from_row {R} row rows = flat_map (λ (names : List R). names) (drop (row - 1) rows)

pub one_by_one : {X R : Type 0} (f : ℕ × X → List R) (n : ℕ) (xs : List X) → flat_map f (enumerate_from n xs) ≡ flat_map (λ (names : List R). names)
    (map f (enumerate_from n xs))
one_by_one f n [] = refl
one_by_one f n (x ∷ xs) = ap (λ rest. f (n, x) ++ rest) (one_by_one f (n + 1) xs)

pub as_many : {X R : Type 0} (f : ℕ × X → List R) (xs : List X) → length (map f (numbered xs)) ≡ length xs
as_many f xs = length-map (numbered xs) f ∙ length-enumerate_from 1 xs

drop_step : {R : Type 0} (i : ℕ) (rows : List (List R)) (names : List R) → slice_get rows i ≡ Some names → drop i rows ≡ names ∷ drop (suc i) rows
drop_step zero [] names there = absurd cc
drop_step zero (x ∷ rows) names there = let same : x ≡ names = cc in ap (λ r. r ∷ rows) same
drop_step (suc i) [] names there = absurd cc
drop_step (suc i) (x ∷ rows) names there = drop_step i rows names there

pub row_and_rest : {R : Type 0} (row : ℕ) (rows : List (List R)) (names : List R) → row_at rows row ≡ Some names
    → from_row row rows ≡ names ++ from_row (row + 1) rows
row_and_rest {R} zero rows names there = absurd cc
row_and_rest {R} (suc i) rows names there =
    let e : suc i + 1 - 1 ≡ suc i = omega arith in
    let e2 : suc i - 1 ≡ i = omega arith in
    ap (λ n. flat_map (λ (names : List R). names) (drop n rows)) e2
    ∙ ap (λ l. flat_map (λ (names : List R). names) l) (drop_step i rows names there)
    ∙ ap (λ n. names ++ flat_map (λ (names : List R). names) (drop n rows)) (sym e)

drop_all : {R : Type 0} (n : ℕ) (rows : List (List R)) → length rows ≤ n → drop n rows ≡ []
drop_all zero [] le = refl
drop_all zero (x ∷ rows) le = absurd (omega (arith, le))
drop_all (suc n) [] le = refl
drop_all (suc n) (x ∷ rows) le = drop_all n rows (omega (arith, le))

pub no_rest : {R : Type 0} (row : ℕ) (rows : List (List R)) → length rows < row → from_row row rows ≡ []
no_rest {R} row rows past = ap (λ l. flat_map (λ (names : List R). names) l) (drop_all (row - 1) rows (omega (arith, past)))

-- what a row answers, and the row
named_at : {X R : Type 0} (f : ℕ × X → List R) (n i : ℕ) (xs : List X) (names : List R) → slice_get (map f (enumerate_from n xs)) i ≡ Some names
    → (x : X) × (slice_get xs i ≡ Some x) × (f (n + i, x) ≡ names)
named_at f n i [] names there = absurd cc
named_at f n zero (x ∷ xs) names there =
    let same : f (n, x) ≡ names = cc in
    let e : n + 0 ≡ n = omega arith in
    (x, refl, ap (λ m. f (m, x)) e ∙ same)
named_at f n (suc i) (x ∷ xs) names there =
    let h = named_at f (n + 1) i xs names there in
    let e : n + suc i ≡ n + 1 + i = omega arith in
    (h.0, h.1, ap (λ m. f (m, h.0)) e ∙ h.2)

row_names : {X R : Type 0} (f : ℕ × X → List R) (xs : List X) (row : ℕ) (names : List R) → row_at (map f (numbered xs)) row ≡ Some names
    → (x : X) × (row_at xs row ≡ Some x) × (f (row, x) ≡ names)
row_names f xs zero names there = absurd cc
row_names f xs (suc i) names there =
    let h = named_at f 1 i xs names there in
    let e : suc i ≡ 1 + i = omega arith in
    (h.0, h.1, ap (λ m. f (m, h.0)) e ∙ h.2)

-- what a row answers is what its record does
pub names_are : {X R : Type 0} (f : ℕ × X → List R) (xs : List X) (row : ℕ) (names : List R) (x : X)
    → row_at (map f (numbered xs)) row ≡ Some names → row_at xs row ≡ Some x → f (row, x) ≡ names
names_are f xs row names x there is =
    let h = row_names f xs row names there in
    let both : Some h.0 ≡ Some x = sym h.1 ∙ is in
    let same : h.0 ≡ x = cc in
    ap (λ y. f (row, y)) (sym same) ∙ h.2
