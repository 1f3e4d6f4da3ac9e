-- The variables and the constants of a value, wherever they stand among those of all scopes.
use Rattle.std.{proofs.Common.{◌≡◌, ◌≢◌, ℕ, zero, suc, List, flat_map, slice_get, ap, sym, ◌∙◌}, specs.Prelude.{Option, Some, unwrap_or}, specs.List.{Contains}}
use Rattle.std.proofs.lemmas.Option.{slice_get_within, get_or_from_slice_get}
use Rattle.ppdb_values.specs.Ordered.{EachRow, EachPair}
use Rattle.ppdb_build_canon.proofs.Among.{among_flat_map}
use Rattle.ppdb_build_scopes_laws.proofs.Pieces.{item_in}

pub among : {X : Type 0} (xs : List X) (i : ℕ) (x : X) → slice_get xs i ≡ Some x → Contains xs x
among xs i x here = (i, slice_get_within xs i x here, get_or_from_slice_get xs i x x here)

-- an item of a piece is one of the joined list
pub among_pieces : {S X : Type 0} (part : S → List X) (all : List S) (k i : ℕ) (s : S) (x : X) → slice_get all k ≡ Some s
    → slice_get (part s) i ≡ Some x → Contains (flat_map part all) x
among_pieces part all k i s x there here = among_flat_map part all s x (among all k s there) (among (part s) i x here)

-- what holds of each item of each piece holds of each item
pub each_item : {S X : Type 0} (part : S → List X) (P : X → Type 0) (all : List S)
    → ((k : ℕ) (s : S) → slice_get all k ≡ Some s → EachRow P (part s)) → EachRow P (flat_map part all)
each_item part P all each zero x here = cc
each_item part P all each (suc n) x here = let p = item_in part all n x here in each p.index p.piece p.there (suc p.place) x p.item

-- what is read
pub read_is : {X : Type 0} (o : Option X) (x d : X) → o ≡ Some x → unwrap_or o d ≡ x
read_is {X = X} o x d h = ap (λ (p : Option X). unwrap_or p d) h

-- what is read is there
pub read_there : {X : Type 0} (o : Option X) (x d : X) → o ≡ Some x → o ≡ Some (unwrap_or o d)
read_there {X = X} o x d h = h ∙ ap (λ (y : X). Some y) (sym (read_is o x d h))

-- two keys that differ, under other names
pub differ_as : {X K : Type 0} (key other : X → K) (xs : List X) → ((i : ℕ) (x : X) → slice_get xs i ≡ Some x → key x ≡ other x)
    → EachPair (λ x y. other x ≢ other y) xs → EachPair (λ x y. key x ≢ key y) xs
differ_as key other xs same apart zero b x y hx hy less = cc
differ_as key other xs same apart (suc i) zero x y hx hy less = cc
differ_as key other xs same apart (suc i) (suc j) x y hx hy less = λ e. apart (suc i) (suc j) x y hx hy less (sym (same i x hx) ∙ e ∙ same j y hy)
