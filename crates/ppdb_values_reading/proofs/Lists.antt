-- Slices of lists, item after item.
use Rattle.std.{proofs.Common.{◌≡◌, ℕ, zero, suc, ◌+◌, ◌-◌, ◌≤◌, List, [], ◌∷◌, ◌++◌, take, drop, map, refl, sym, ap, ◌∙◌, arith, slice_get}, specs.Prelude.{Some}}
use Rattle.std.specs.{Prelude.{slice_range}, List.{enumerate_from}}
use Rattle.ppdb_tables.specs.RawTables.{numbered, row_at}

get_drop : {X : Type 0} (xs : List X) (a i : ℕ) → slice_get (drop a xs) i ≡ slice_get xs (a + i)
get_drop [] zero i = refl
get_drop [] (suc a) i = refl
get_drop (x ∷ xs) zero i = let e : zero + i ≡ i = omega arith in rw e refl
get_drop (x ∷ xs) (suc a) i = let e : suc a + i ≡ suc (a + i) = omega arith in rw e (get_drop xs a i)

take_get : {X : Type 0} (xs : List X) (i : ℕ) (x : X) → slice_get xs i ≡ Some x → take (suc i) xs ≡ take i xs ++ x ∷ []
take_get [] i x e = cc
take_get {X} (y ∷ ys) zero x e = let same : y ≡ x = cc in ap (λ (z : X). z ∷ []) same
take_get {X} (y ∷ ys) (suc i) x e = ap (λ (zs : List X). y ∷ zs) (take_get ys i x e)

slice_get_more : {X : Type 0} (xs : List X) (a b : ℕ) (x : X) → a ≤ b → slice_get xs b ≡ Some x
    → take (suc b - a) (drop a xs) ≡ take (b - a) (drop a xs) ++ x ∷ []
slice_get_more xs a b x le e =
    let s : suc b - a ≡ suc (b - a) = omega (arith, le) in
    let t : a + (b - a) ≡ b = omega (arith, le) in
    rw s (take_get (drop a xs) (b - a) x (get_drop xs a (b - a) ∙ rw t e))

-- the rows from one up to another, and that row
pub slice_row : {X : Type 0} (xs : List X) (first row : ℕ) (x : X) → 1 ≤ first → first ≤ row → row_at xs row ≡ Some x
    → slice_range xs (first - 1) (row + 1 - 1) ≡ slice_range xs (first - 1) (row - 1) ++ x ∷ []
slice_row xs first zero x low le e = cc
slice_row xs first (suc i) x low le e =
    let up : suc i + 1 - 1 ≡ suc i = omega arith in
    let down : suc i - 1 ≡ i = omega arith in
    rw (up, down) (slice_get_more xs (first - 1) i x (omega (arith, low, le)) e)

pub slice_none : {X : Type 0} (xs : List X) (a b : ℕ) → b ≤ a → slice_range xs a b ≡ []
slice_none xs a b le = let e : b - a ≡ 0 = omega (arith, le) in rw e refl

take_map : {X Y : Type 0} (f : X → Y) (n : ℕ) (xs : List X) → map f (take n xs) ≡ take n (map f xs)
take_map f zero xs = refl
take_map f (suc n) [] = refl
take_map {X} {Y} f (suc n) (x ∷ xs) = ap (λ (ys : List Y). f x ∷ ys) (take_map f n xs)

drop_map : {X Y : Type 0} (f : X → Y) (n : ℕ) (xs : List X) → map f (drop n xs) ≡ drop n (map f xs)
drop_map f zero xs = refl
drop_map f (suc n) [] = refl
drop_map f (suc n) (x ∷ xs) = drop_map f n xs

unnumbered : {X Y : Type 0} (f : X → Y) (n : ℕ) (xs : List X) → map (λ row. f row.1) (enumerate_from n xs) ≡ map f xs
unnumbered f n [] = refl
unnumbered {X} {Y} f n (x ∷ xs) = ap (λ (ys : List Y). f x ∷ ys) (unnumbered f (n + 1) xs)

-- what is made of a slice of rows is that slice of what is made of all rows
pub slice_made : {X Y : Type 0} (f : X → Y) (xs : List X) (a b : ℕ) → map (λ row. f row.1) (slice_range (numbered xs) a b) ≡ slice_range (map f xs) a b
slice_made {X} {Y} f xs a b =
    take_map (λ (row : ℕ × X). f row.1) (b - a) (drop a (numbered xs))
    ∙ ap (λ (ys : List Y). take (b - a) ys) (drop_map (λ (row : ℕ × X). f row.1) a (numbered xs) ∙ ap (λ (ys : List Y). drop a ys) (unnumbered f 1 xs))

-- the items of a list up to a row, and that row's
pub slice_more : {X : Type 0} (xs made more : List X) (first row : ℕ) (x : X) → 1 ≤ first → first ≤ row → row_at xs row ≡ Some x
    → made ≡ slice_range xs (first - 1) (row - 1) → more ≡ made ++ x ∷ [] → more ≡ slice_range xs (first - 1) (row + 1 - 1)
slice_more {X} xs made more first row x low le there same pushed =
    pushed ∙ ap (λ (ys : List X). ys ++ x ∷ []) same ∙ sym (slice_row xs first row x low le there)
