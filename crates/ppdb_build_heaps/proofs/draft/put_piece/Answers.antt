use Rattle.std.proofs.Common.{[], ◌∷◌, ◌++◌, sym, subst}
use Rattle.ppdb_build_heaps.specs.{declared.draft.BlobPiece.{BlobPiece}, Items.{index_of, as_blob, shortest}, Uses.{index}, Interned.{Contents}, Drafts.{IsDraft}}
use Rattle.ppdb_build_heaps.{specs.Drafts.{piece_of}, proofs.Drafts.{index-drafted}}
use Rattle.ppdb_build_heaps.proofs.draft.put_piece.Goals as goal

pub returns-in_ok-put_index-in-Index-clause-draft : goal.returns-in_ok-put_index-in-Index-clause-draft
returns-in_ok-put_index-in-Index-clause-draft c before pieces draft =
    let content = c.in-Index.content.now in
    let interned = c.in_ok-put_index-in-Index.ensures.items in
    subst (λ (piece : BlobPiece). IsDraft before (pieces ++ piece_of piece ∷ []) c.put_index.new.heap.items c.put_index.new.draft) (sym c.in-Index.is)
    (subst (IsDraft before (pieces ++ index content ∷ []) c.put_index.new.heap.items) (sym c.in_ok-put_index-in-Index.ensures.bytes)
    (subst (λ (heap : Contents). IsDraft before (pieces ++ index content ∷ []) heap.items (c.args.draft.now ++ shortest
    (index_of as_blob heap.items content))) (sym interned)
    (index-drafted before pieces c.args.heap.now.items c.args.draft.now draft content)))
