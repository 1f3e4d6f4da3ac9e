-- Blobs as they are put together from pieces.
use Rattle.std.specs.Prelude.{◌≡◌, ℕ, List, map, flat_map}
use Rattle.ppdb_build_heaps.specs.{declared.draft.BlobPiece.{BlobPiece, TheVariants.{Octets, Index}}, Uses.{Piece, octets, index, held_by, plain, blobs_after, blob_bytes}}

abbrev pub piece_of : BlobPiece → Piece
piece_of (Octets bytes) = octets bytes.now
piece_of (Index content) = index content.now

-- the pieces up to here: what they hold is noted, and the bytes are theirs
pub record IsDraft (before : List (List ℕ)) (pieces : List Piece) (items : List (List ℕ)) (bytes : List ℕ) : Type 0 where
  pub interned : items ≡ blobs_after before (map plain (flat_map held_by pieces))
  pub spelled : bytes ≡ blob_bytes items pieces
