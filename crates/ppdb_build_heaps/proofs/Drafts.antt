-- Blobs that are put together from pieces, one after another.
use Rattle.std.proofs.{Common.{◌≡◌, ℕ, List, [], ◌∷◌, ◌++◌, map, refl, sym, ap, subst, ◌∙◌, flat_map}, lemmas.List.{append-nil, map_push}}
use Rattle.std.proofs.lemmas.List.{Sums.{fold_push}, Concat.{flat_map-append}}
use Rattle.ppdb_build_heaps.specs.{Items.{IsIn, with_use, index_of, as_blob, shortest}, Uses.{Piece, octets, index, held_by, piece_bytes, plain, with_held}}
use Rattle.ppdb_build_heaps.{specs.Uses.{blobs_after, blob_bytes}, specs.Drafts.{IsDraft}, proofs.Items.{with_use-adds}, proofs.Stable.{AreIn, AreReady, AreUsed}}
use Rattle.ppdb_build_heaps.proofs.Stable.{after-used, spelled-stable}

-- ---- what is held stands in the heap

ready-plain : (items contents : List (List ℕ)) → AreReady items (map plain contents)
ready-plain items [] = tt
ready-plain items (content ∷ contents) = (tt, ready-plain (with_use items (blob_bytes items (plain content))) contents)

used-in : (items contents : List (List ℕ)) → AreUsed items (map plain contents) → AreIn items contents
used-in items [] used = tt
used-in items (content ∷ contents) used = (subst (IsIn items) (append-nil content) used.0, used-in items contents used.1)

pub plains-in : (before contents : List (List ℕ)) → AreIn (blobs_after before (map plain contents)) contents
plains-in before contents = used-in (blobs_after before (map plain contents)) contents (after-used before (map plain contents) (ready-plain before contents))

held-push : (pieces : List Piece) (piece : Piece) → flat_map held_by (pieces ++ piece ∷ []) ≡ flat_map held_by pieces ++ held_by piece
held-push pieces piece = flat_map-append held_by pieces (piece ∷ []) ∙ ap (λ rest. flat_map held_by pieces ++ rest) (append-nil (held_by piece))

bytes-push : (items : List (List ℕ)) (pieces : List Piece) (piece : Piece)
    → blob_bytes items (pieces ++ piece ∷ []) ≡ blob_bytes items pieces ++ piece_bytes items piece
bytes-push items pieces piece = flat_map-append (piece_bytes items) pieces (piece ∷ [])
    ∙ ap (λ rest. blob_bytes items pieces ++ rest) (append-nil (piece_bytes items piece))

-- ---- steps

-- no piece yet
pub none-drafted : (before : List (List ℕ)) → IsDraft before [] before []
unfolding blobs_after
none-drafted before = record { interned = refl; spelled = refl }

module _ (before : List (List ℕ)) (pieces : List Piece) (items : List (List ℕ)) (bytes : List ℕ) (draft : IsDraft before pieces items bytes) where
  -- what the pieces hold stands among the items
  pub held-there : AreIn items (flat_map held_by pieces)
  held-there = subst (λ now. AreIn now (flat_map held_by pieces)) (sym draft.interned) (plains-in before (flat_map held_by pieces))

  -- the bytes stay theirs once more items are there
  pub spelled-later : (more : List (List ℕ)) → blob_bytes (items ++ more) pieces ≡ bytes
  spelled-later more = spelled-stable items more pieces held-there ∙ sym draft.spelled

  -- some bytes more
  pub octets-drafted : (more : List ℕ) → IsDraft before (pieces ++ octets more ∷ []) items (bytes ++ more)
  octets-drafted more = record {
    interned = draft.interned ∙ ap (λ contents. blobs_after before (map plain contents)) (sym (held-push pieces (octets more) ∙ append-nil (flat_map held_by pieces)));
    spelled = ap (λ b. b ++ more) draft.spelled ∙ sym (bytes-push items pieces (octets more));
  }

  -- an index more
  pub index-drafted : (content : List ℕ) → IsDraft before (pieces ++ index content ∷ []) (with_use items content) (bytes ++ shortest (index_of as_blob
      (with_use items content) content))
  unfolding blobs_after
  index-drafted content =
      let adds = with_use-adds items content in
      let spelled : blob_bytes (with_use items content) pieces ≡ bytes = ap (λ now. blob_bytes now pieces) adds.1 ∙ spelled-later adds.0 in record {
        interned = ap (λ now. with_use now content) draft.interned
            ∙ ap (with_use (blobs_after before (map plain (flat_map held_by pieces)))) (sym (append-nil content))
            ∙ sym (fold_push (λ now used. with_use now (blob_bytes now used)) before (map plain (flat_map held_by pieces)) (plain content))
            ∙ ap (λ uses. blobs_after before uses) (sym (map_push plain (flat_map held_by pieces) content))
            ∙ ap (λ contents. blobs_after before (map plain contents)) (sym (held-push pieces (index content)));
        spelled = ap (λ b. b ++ shortest (index_of as_blob (with_use items content) content)) (sym spelled)
            ∙ sym (bytes-push (with_use items content) pieces (index content));
      }

  -- the blob is noted after what it holds
  pub draft-interned : with_use items bytes ≡ blobs_after before (with_held pieces)
  unfolding blobs_after
  draft-interned =
      ap (with_use items) draft.spelled
      ∙ ap (λ now. with_use now (blob_bytes now pieces)) draft.interned
      ∙ sym (fold_push (λ now used. with_use now (blob_bytes now used)) before (map plain (flat_map held_by pieces)) pieces)

  -- and the heap that has it spells it so
  pub draft-spelled : blob_bytes (with_use items bytes) pieces ≡ bytes
  draft-spelled = let adds = with_use-adds items bytes in ap (λ now. blob_bytes now pieces) adds.1 ∙ spelled-later adds.0
