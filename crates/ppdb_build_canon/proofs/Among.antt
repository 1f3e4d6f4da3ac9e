-- Elements of lists that are made of others.
use Rattle.std.{proofs.Common.{◌≡◌, ℕ, zero, suc, List, [], ◌∷◌, map, flat_map, refl, sym, ap, ◌∙◌, subst, arith}, specs.Prelude.{Some}, specs.List.{Contains}}
use Rattle.std.proofs.lemmas.{List.{length-map, get_or-map}, List.Elements.{Contains-append_left, Contains-append_right}, Option.{slice_get_within}}
use Rattle.std.proofs.lemmas.Option.{get_or_from_slice_get}
use Rattle.ppdb_tables.specs.RawTables.{row_at}

pub among_first : {X : Type 0} (x : X) (xs : List X) → Contains (x ∷ xs) x
among_first x xs = (0, omega arith, refl)

pub among_later : {X : Type 0} (x y : X) (xs : List X) → Contains xs y → Contains (x ∷ xs) y
among_later x y xs is = let inside = is.1 in (suc is.0, omega (arith, inside), is.2)

-- a row that is there
pub among_rows : {X : Type 0} (rows : List X) (row : ℕ) (x : X) → row_at rows row ≡ Some x → Contains rows x
among_rows rows zero x here = cc
among_rows rows (suc i) x here = (i, slice_get_within rows i x here, get_or_from_slice_get rows i x x here)

pub among_map : {X Y : Type 0} (f : X → Y) (xs : List X) (x : X) → Contains xs x → Contains (map f xs) (f x)
among_map f xs x is =
    let inside = is.1 in
    (is.0, omega (arith, inside, length-map xs f), get_or-map f xs is.0 x (f x) inside ∙ ap f is.2)

pub among_flat_map : {X Y : Type 0} (f : X → List Y) (xs : List X) (x : X) (y : Y) → Contains xs x → Contains (f x) y → Contains (flat_map f xs) y
among_flat_map f [] x y is held = absurd (omega (arith, is.1))
among_flat_map f (first ∷ xs) x y (zero, inside, same) held =
    Contains-append_left (f first) (flat_map f xs) y (subst (λ one. Contains (f one) y) (sym same) held)
among_flat_map f (first ∷ xs) x y (suc k, inside, same) held =
    Contains-append_right (f first) (flat_map f xs) y (among_flat_map f xs x y (k, omega (arith, inside), same) held)
