-- Blobs that are used stand in the heap, as the heap spells them.
use Rattle.std.proofs.{Common.{◌≡◌, ℕ, List, [], ◌∷◌, ◌++◌, map, flat_map, refl, sym, ap, subst, ◌∙◌, append_assoc}, lemmas.List.{append-nil}}
use Rattle.ppdb_build_heaps.specs.{Items.{IsIn, with_use, index_of, as_blob, shortest}, Uses.{Piece, octets, index, held_by, blob_bytes, plain, with_held}}
use Rattle.ppdb_build_heaps.{specs.Uses.{blobs_after, heap_of}, proofs.Items.{index-stable, with_use-adds, used-there, stays-there}}

-- each of some contents is one of the items
abbrev pub AreIn : List (List ℕ) → List (List ℕ) → Type 0
AreIn items [] = Unit {0}
AreIn items (content ∷ contents) = IsIn items content × AreIn items contents

-- each blob comes after those whose indexes it holds
abbrev pub AreReady : List (List ℕ) → List (List Piece) → Type 0
AreReady items [] = Unit {0}
AreReady items (used ∷ uses) = AreIn items (flat_map held_by used) × AreReady (with_use items (blob_bytes items used)) uses

-- each blob stands in the heap, as the heap spells it
abbrev pub AreUsed : List (List ℕ) → List (List Piece) → Type 0
AreUsed items [] = Unit {0}
AreUsed items (used ∷ uses) = IsIn items (blob_bytes items used) × AreUsed items uses

-- more uses leave the items, and add some
pub after-adds : (items : List (List ℕ)) (uses : List (List Piece)) → (more : List (List ℕ)) × (blobs_after items uses ≡ items ++ more)
unfolding blobs_after
after-adds items [] = ([], sym (append-nil items))
after-adds items (used ∷ uses) =
    let one = with_use-adds items (blob_bytes items used) in
    let rest = after-adds (with_use items (blob_bytes items used)) uses in
    (one.0 ++ rest.0, rest.1 ∙ ap (λ now. now ++ rest.0) one.1 ∙ append_assoc items one.0 rest.0)

-- more items spell a blob in the same way, once what it holds is there
pub spelled-stable : (items more : List (List ℕ)) (pieces : List Piece) → AreIn items (flat_map held_by pieces)
    → blob_bytes (items ++ more) pieces ≡ blob_bytes items pieces
spelled-stable items more [] are = refl
spelled-stable items more (octets bytes ∷ pieces) are = ap (λ rest. bytes ++ rest) (spelled-stable items more pieces are)
spelled-stable items more (index content ∷ pieces) are =
    ap (λ n. shortest n ++ blob_bytes (items ++ more) pieces) (index-stable as_blob items more content are.0)
    ∙ ap (λ rest. shortest (index_of as_blob items content) ++ rest) (spelled-stable items more pieces are.1)

-- each use stands in the heap that the uses make
pub after-used : (items : List (List ℕ)) (uses : List (List Piece)) → AreReady items uses → AreUsed (blobs_after items uses) uses
unfolding blobs_after
after-used items [] ready = tt
after-used items (used ∷ uses) ready =
    let bytes = blob_bytes items used in
    let next = with_use items bytes in
    let one = with_use-adds items bytes in
    let adds = after-adds next uses in
    let all : blobs_after next uses ≡ items ++ (one.0 ++ adds.0) = adds.1 ∙ ap (λ now. now ++ adds.0) one.1 ∙ append_assoc items one.0 adds.0 in
    let same : blob_bytes (blobs_after next uses) used ≡ bytes = ap (λ now. blob_bytes now used) all ∙ spelled-stable items (one.0 ++ adds.0) used ready.0 in (
      subst (IsIn (blobs_after next uses)) (sym same) (subst (λ now. IsIn now bytes) (sym adds.1) (stays-there next adds.0 bytes (used-there items bytes))),
      after-used next uses ready.1,
    )

-- ---- what a blob holds comes before it

kept : (items : List (List ℕ)) (bytes content : List ℕ) → IsIn items content → IsIn (with_use items bytes) content
kept items bytes content h = let adds = with_use-adds items bytes in subst (λ now. IsIn now content) (sym adds.1) (stays-there items adds.0 content h)

plain-bytes : (items : List (List ℕ)) (bytes : List ℕ) → blob_bytes items (plain bytes) ≡ bytes
plain-bytes items bytes = append-nil bytes

ready-held : (items : List (List ℕ)) (todo : List (List ℕ)) (later : List (List Piece))
    → ((now : List (List ℕ)) → AreIn now todo → ((content : List ℕ) → IsIn items content → IsIn now content) → AreReady now later)
    → AreReady items (map plain todo ++ later)
ready-held items [] later go = go items tt (λ content h. h)
ready-held items (bytes ∷ todo) later go = (
  tt,
  subst (λ spelled. AreReady (with_use items spelled) (map plain todo ++ later)) (sym (plain-bytes items bytes))
      (ready-held (with_use items bytes) todo later (λ now are keep. go now (
        keep bytes (used-there items bytes),
        are,
      ) (λ content h. keep content (kept items bytes content h)))),
)

pub ready-all : (items : List (List ℕ)) (blobs : List (List Piece)) (later : List (List Piece)) → ((now : List (List ℕ)) → AreReady now later)
    → AreReady items (flat_map with_held blobs ++ later)
ready-all items [] later go = go items
ready-all items (pieces ∷ blobs) later go =
    subst (AreReady items) (sym (append_assoc (with_held pieces) (flat_map with_held blobs) later
    ∙ append_assoc (map plain (flat_map held_by pieces)) (pieces ∷ []) (flat_map with_held blobs ++ later)))
    (ready-held items (flat_map held_by pieces) (pieces ∷ (flat_map with_held blobs ++ later)) (λ now are keep. (
      are,
      ready-all (with_use now (blob_bytes now pieces)) blobs later go,
    )))

pub all-ready : (items : List (List ℕ)) (blobs : List (List Piece)) → AreReady items (flat_map with_held blobs)
all-ready items blobs = subst (AreReady items) (append-nil (flat_map with_held blobs)) (ready-all items blobs [] (λ now. tt))

pub all-used : (blobs : List (List Piece)) → AreUsed (heap_of (flat_map with_held blobs)) (flat_map with_held blobs)
all-used blobs = after-used ([] ∷ []) (flat_map with_held blobs) (all-ready ([] ∷ []) blobs)
