-- What a blob of a canonical file holds: each index is that of a blob that is there.
use Rattle.std.{proofs.Common.{◌≡◌, ℕ, ◌+◌, ◌<◌, ◌≤◌, List, [], ◌∷◌, length, map, refl, ap, subst, ◌∙◌, arith, min, sum_by, flat_map}, specs.Prelude.{Some}}
use Rattle.std.{specs.List.{Contains}, proofs.lemmas.List.{append-nil}, proofs.lemmas.List.Sums.{sum_by-cons, sum_by_push}}
use Rattle.cli_ints.specs.Shortest.{short_unsigned}
use Rattle.ppdb_heaps.specs.Heaps.{blob_at}
use Rattle.ppdb_values.specs.declared.file.FileValue.{FileValue}
use Rattle.ppdb_verify_total.specs.HeapUses.{len_of}
use Rattle.ppdb_build_heaps.specs.{Items.{index_of, as_blob, shortest}, Uses.{Piece, index, held_by, plain, with_held, blob_bytes}}
use Rattle.ppdb_build_canon.{specs.Uses.{blobs, cell_blobs}, specs.Canonical.{blob_cell, canonical_tables}, proofs.Stand.{blob_stands, blob_within}}
use Rattle.ppdb_build_canon.proofs.Uses.{held_used, named_used}

-- the contents that some indexes name
pub held_are : (contents : List (List ℕ)) → flat_map held_by (map index contents) ≡ contents
held_are [] = refl
held_are (content ∷ contents) = ap (λ rest. content ∷ rest) (held_are contents)

-- a number that is small enough is spelled in its shortest form
pub least_form : (n : ℕ) → n < 0x20000000 → shortest n ≡ short_unsigned n
least_form n below = let least : min n 0x1fffffff ≡ n = omega (arith, below) in ap short_unsigned least

module _ (value : FileValue) (small : length (canonical_tables value).blobs ≤ 134217728) where
  -- how many bytes a blob has
  abbrev pub spelled_len : List Piece → ℕ
  spelled_len used = length (blob_bytes (blobs value) used)

  -- the index of a blob by its content
  abbrev pub place_of : List ℕ → ℕ
  place_of content = index_of as_blob (blobs value) content

  -- a blob that a cell names has its length
  pub cell_len : (used : List Piece) → Contains (cell_blobs value) used → len_of (blob_at (canonical_tables value).blobs (blob_cell value used))
      ≡ spelled_len used
  cell_len used is = ap len_of (blob_stands value used (named_used value used is) small)

  module _ (pieces : List Piece) (is : Contains (cell_blobs value) pieces) (content : List ℕ) (held : Contains (flat_map held_by pieces) content) where
    itself : blob_bytes (blobs value) (plain content) ≡ content
    itself = append-nil content

    -- a blob whose index another one holds is there
    pub held_there : blob_at (canonical_tables value).blobs (place_of content) ≡ Some content
    held_there =
        subst (λ (bytes : List ℕ). blob_at (canonical_tables value).blobs (place_of bytes) ≡ Some bytes) itself
        (blob_stands value (plain content) (held_used value pieces content is held) small)

    pub held_small : place_of content < 0x20000000
    held_small =
        let within = blob_within value (plain content) (held_used value pieces content is held) in
        let same : blob_cell value (plain content) ≡ place_of content = ap place_of itself in
        omega (arith, within, same, small)

    -- its index is spelled in its shortest form
    pub held_spelled : shortest (place_of content) ≡ short_unsigned (place_of content)
    held_spelled = least_form (place_of content) held_small

  -- what a blob holds, and the blob, by their lengths
  pub with_held_len : (pieces : List Piece) → sum_by spelled_len (with_held pieces) ≡ sum_by length (flat_map held_by pieces) + spelled_len pieces
  with_held_len pieces =
      sum_by_push spelled_len (map plain (flat_map held_by pieces)) pieces ∙ ap (λ n. n + spelled_len pieces) (plains (flat_map held_by pieces))
    where
      plains : (contents : List (List ℕ)) → sum_by spelled_len (map plain contents) ≡ sum_by length contents
      plains [] = refl
      plains (content ∷ contents) =
          let rest = plains contents in
          let here : spelled_len (plain content) ≡ length content = ap length (append-nil content) in
          omega (arith, rest, here, sum_by-cons spelled_len (plain content) (map plain contents), sum_by-cons length content contents)
