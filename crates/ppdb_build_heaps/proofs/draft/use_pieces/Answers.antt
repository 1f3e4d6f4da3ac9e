use Rattle.std.proofs.{Common.{[], take, map, ap, sym, subst, ◌∙◌, arith}, lemmas.List.{take_all, length-map}}
use Rattle.ppdb_build_heaps.specs.{declared.draft.BlobPiece.{BlobPiece}, declared.draft.BlobPiece.TheVariants.{Octets}, Kinds.{spelled}, Items.{with_use, index_of}}
use Rattle.ppdb_build_heaps.specs.{Items.{as_blob}, Uses.{blob_bytes}, Drafts.{IsDraft, piece_of}, Interned.{Contents}}
use Rattle.ppdb_build_heaps.proofs.{Drafts.{none-drafted, draft-interned, draft-spelled}, Parts.{part-next}}
use Rattle.ppdb_base.specs.Told.{told}
use Rattle.ppdb_build_heaps.proofs.draft.use_pieces.Goals as goal

pub loop-piece-init : goal.loop-piece-init
loop-piece-init c = record {
  kind = c.requires;
  drafted = subst (IsDraft c.args.heap.now.items [] c.args.heap.now.items) (sym c.clear.ensures) (none-drafted c.args.heap.now.items);
}

pub loop-piece-preserved : goal.loop-piece-preserved
loop-piece-preserved c =
    let none : BlobPiece = Octets (record { ref_ptr = (0, 0); now = [] }) in
    let prefix = take c.loop-piece.piece-index (map piece_of c.args.pieces.now) in
    record {
      kind = c.in_ok-put_piece.ensures.kind;
      drafted = subst (λ pieces. IsDraft c.args.heap.now.items pieces c.put_piece.new.heap.items c.put_piece.new.draft)
          (sym (part-next piece_of c.args.pieces.now c.loop-piece.piece-index none (omega arith)))
          (c.in_ok-put_piece.ensures.draft c.args.heap.now.items prefix c.loop-piece.invariant.drafted);
    }

whole : (c : goal.In_ok-index) → IsDraft c.args.heap.now.items (map piece_of c.args.pieces.now) c.loop-piece.heap.items c.as_slice.result.now
whole c =
    subst (IsDraft c.args.heap.now.items (map piece_of c.args.pieces.now) c.loop-piece.heap.items) (sym c.as_slice.ensures)
    (subst (λ pieces. IsDraft c.args.heap.now.items pieces c.loop-piece.heap.items c.loop-piece.draft)
    (take_all c.loop-piece.piece-index (map piece_of c.args.pieces.now) (omega (arith, c.loop-piece-test.false, length-map c.args.pieces.now piece_of)))
    c.loop-piece.invariant.drafted)

pub returns-clause-items : goal.returns-clause-items
returns-clause-items c =
    c.in_ok-index.ensures.items
    ∙ ap (λ kind. record { kind = kind; items = with_use c.loop-piece.heap.items c.as_slice.result.now }) (c.loop-piece.invariant.kind ∙ sym c.requires)
    ∙ ap (λ items. record { kind = c.args.heap.now.kind; items = items }) (draft-interned c.args.heap.now.items
    (map piece_of c.args.pieces.now) c.loop-piece.heap.items c.as_slice.result.now (whole c))

pub returns-clause-index : goal.returns-clause-index
returns-clause-index c =
    let bytes = c.as_slice.result.now in
    let items = with_use c.loop-piece.heap.items bytes in
    c.in_ok-index.ensures.index
    ∙ ap (λ kind. told (index_of (spelled kind) items bytes)) c.loop-piece.invariant.kind
    ∙ ap (λ blob. told (index_of as_blob items blob)) (sym (draft-spelled c.args.heap.now.items
    (map piece_of c.args.pieces.now) c.loop-piece.heap.items bytes (whole c)))
    ∙ ap (λ (heap : Contents). told (index_of as_blob heap.items (blob_bytes heap.items (map piece_of c.args.pieces.now)))) (sym c.in_ok-index.ensures.items)
