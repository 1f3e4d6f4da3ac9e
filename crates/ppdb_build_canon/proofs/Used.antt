-- What is used stands in its heap.
use Rattle.std.proofs.Common.{◌≡◌, ℕ, zero, suc, Bool, true, false, not, List, [], ◌∷◌, ◌||◌, filter, refl, sym, ap, ◌∙◌, subst, arith, bytes_eq}
use Rattle.std.specs.{List.{Contains, list_any}, Prelude.{flat_map}}
use Rattle.ppdb_build_heaps.{specs.Items.{IsIn, first_uses}, specs.Uses.{Piece, blob_bytes, with_held, heap_of}, proofs.Items.{itself}, proofs.Stable.{AreUsed}}
use Rattle.ppdb_build_heaps.proofs.{Stable.{all-used}, FirstUses.{any-others}}

-- ---- texts and GUIDs

abbrev others : List ℕ → List (List ℕ) → List (List ℕ)
others item items = filter (λ other. not (bytes_eq item other)) items

-- an item is among the first uses exactly where it is among the uses
pub first_uses_have : (uses : List (List ℕ)) (item : List ℕ) → list_any (bytes_eq item) (first_uses uses) ≡ list_any (bytes_eq item) uses
unfolding first_uses
first_uses_have [] item = refl
first_uses_have (used ∷ uses) item = by (bytes_eq item used) refl (first_uses_have uses item)
  where
    by : (b : Bool) → bytes_eq item used ≡ b → list_any (bytes_eq item) (first_uses uses) ≡ list_any (bytes_eq item) uses
        → (bytes_eq item used || list_any (bytes_eq item) (others used (first_uses uses))) ≡ (bytes_eq item used || list_any (bytes_eq item) uses)
    by true e rest = ap (λ b. b || list_any (bytes_eq item) (others used (first_uses uses))) e ∙ sym (ap (λ b. b || list_any (bytes_eq item) uses) e)
    by false e rest = ap (λ all. bytes_eq item used || all) (any-others used item (first_uses uses) e ∙ rest)

among_any : (items : List (List ℕ)) (item : List ℕ) → Contains items item → list_any (bytes_eq item) items ≡ true
among_any [] item is = absurd (omega (arith, is.1))
among_any (first ∷ items) item (zero, inside, same) = ap (λ b. b || list_any (bytes_eq item) items) (ap (bytes_eq item) same ∙ itself item)
among_any (first ∷ items) item (suc k, inside, same) = by (bytes_eq item first) (among_any items item (k, omega (arith, inside), same))
  where
    by : (b : Bool) → list_any (bytes_eq item) items ≡ true → (b || list_any (bytes_eq item) items) ≡ true
    by true rest = refl
    by false rest = rest

pub item_used : (uses : List (List ℕ)) (item : List ℕ) → Contains uses item → IsIn (first_uses uses) item
item_used uses item is = first_uses_have uses item ∙ among_any uses item is

-- ---- blobs

used_among : (items : List (List ℕ)) (uses : List (List Piece)) (used : List Piece) → AreUsed items uses → Contains uses used
    → IsIn items (blob_bytes items used)
used_among items [] used all is = absurd (omega (arith, is.1))
used_among items (first ∷ uses) used all (zero, inside, same) = subst (λ one. IsIn items (blob_bytes items one)) same all.0
used_among items (first ∷ uses) used all (suc k, inside, same) = used_among items uses used all.1 (k, omega (arith, inside), same)

-- a blob that is used stands in the heap, as the heap spells it
pub blob_used : (blobs : List (List Piece)) (used : List Piece) → Contains (flat_map with_held blobs) used
    → IsIn (heap_of (flat_map with_held blobs)) (blob_bytes (heap_of (flat_map with_held blobs)) used)
blob_used blobs used is = used_among (heap_of (flat_map with_held blobs)) (flat_map with_held blobs) used (all-used blobs) is
