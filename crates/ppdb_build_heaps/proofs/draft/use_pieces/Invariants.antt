use Rattle.std.proofs.Common.{◌≡◌, take, map}
use Rattle.ppdb_build_heaps.specs.{declared.heap.HeapKind.TheVariants.{Blobs}, Drafts.{IsDraft, piece_of}}
use Rattle.ppdb_build_heaps.proofs.draft.use_pieces.Given as goal

abbrev pub invariant-loop-piece : goal.invariant-loop-piece
invariant-loop-piece l = record {
  kind : l.heap.kind ≡ Blobs;
  drafted : IsDraft l.initial.heap.items (take l.piece-index (map piece_of l.pieces)) l.heap.items l.draft;
}
