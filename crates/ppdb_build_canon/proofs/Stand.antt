-- What a value uses stands at its index in the heaps of the canonical file.
use Rattle.std.proofs.Common.{◌≡◌, ◌≢◌, ℕ, ◌+◌, ◌<◌, ◌≤◌, Bool, true, false, cond, not, List, [], ◌∷◌, ◌++◌, length, filter, flat_map, replicate, sym, subst, arith}
use Rattle.std.{proofs.Common.{bytes_eq, length-append, min}, specs.Prelude.{All, Some}, specs.List.{Contains}, proofs.lemmas.List.Elements.{All-cons, All-head}}
use Rattle.std.proofs.lemmas.List.Elements.{All-tail, All-filter, All-contains}
use Rattle.cli_ints.specs.Shortest.{short_unsigned}
use Rattle.ppdb_heaps.specs.Heaps.{text_at, blob_at, guid_at}
use Rattle.ppdb_build_heaps.{specs.Items.{IsIn, first_uses, index_of, as_text, as_blob, shortest}, specs.Uses.{Piece, blob_bytes}, proofs.Stable.{after-adds}}
use Rattle.ppdb_build_heaps.proofs.{Stands.{text-there, blob-there, guid-there}, Stays.{within as index_within}}
use Rattle.ppdb_values.specs.{declared.file.FileValue.{FileValue}, Types.{IsGuid}}
use Rattle.ppdb_build_layout.specs.Bytes.{padding, padded}
use Rattle.ppdb_build_canon.specs.{Uses.{text_uses, guid_uses, cell_blobs, blob_uses, texts, guids, blobs}, Canonical.{text_cell, guid_cell, blob_cell}}
use Rattle.ppdb_build_canon.{specs.Canonical.{canonical_tables}, proofs.Among.{among_later}, proofs.Used.{item_used, blob_used}}

-- ---- an item ends within its heap

padded_longer : (bytes : List ℕ) → length bytes ≤ length (padded bytes)
padded_longer bytes = omega (arith, length-append bytes (replicate (padding (length bytes)) 0))

-- a length has a byte at least
some_bytes : (b c : Bool) (x y1 y2 z1 z2 z3 z4 : ℕ) → 1 ≤ length (cond b (x ∷ []) (cond c (y1 ∷ y2 ∷ []) (z1 ∷ z2 ∷ z3 ∷ z4 ∷ [])))
some_bytes true c x y1 y2 z1 z2 z3 z4 = omega arith
some_bytes false true x y1 y2 z1 z2 z3 z4 = omega arith
some_bytes false false x y1 y2 z1 z2 z3 z4 = omega arith

pub short_some : (n : ℕ) → 1 ≤ length (short_unsigned n)
unfolding short_unsigned
short_some n = search some_bytes

as_blob_longer : (item : List ℕ) → length item + 1 ≤ length (as_blob item)
as_blob_longer item = omega (arith, length-append (shortest (length item)) item, short_some (min (length item) 0x1fffffff))

-- what holds of all uses holds of the items
all_first_uses : (P : List ℕ → Type 0) (uses : List (List ℕ)) → All P uses → All P (first_uses uses)
unfolding first_uses
all_first_uses P [] all = all
all_first_uses P (item ∷ uses) all =
    All-cons P item (filter (λ other. not (bytes_eq item other)) (first_uses uses)) (All-head P item uses all)
    (All-filter (λ other. not (bytes_eq item other)) P (first_uses uses) (all_first_uses P uses (All-tail P item uses all)))

module _ (value : FileValue) where
  -- ---- texts

  -- a text that is used, or the empty one
  text_in : (text : List ℕ) → Contains (text_uses value) text → IsIn (texts value) text
  text_in text is = item_used ([] ∷ text_uses value) text (among_later [] text (text_uses value) is)

  pub text_stands : (text : List ℕ) → Contains (text_uses value) text → All (λ b. b ≢ 0) text
      → text_at (canonical_tables value).texts (text_cell value text) ≡ Some text
  unfolding canonical_tables first_uses
  text_stands text is whole =
      text-there (filter (λ other. not (bytes_eq [] other)) (first_uses (text_uses value))) text
      (replicate (padding (length (flat_map as_text (texts value)))) 0) (text_in text is) whole

  -- ---- blobs

  blob_in : (used : List Piece) → Contains (blob_uses value) used → IsIn (blobs value) (blob_bytes (blobs value) used)
  blob_in used is = blob_used (cell_blobs value) used is

  pub blob_within : (used : List Piece) → Contains (blob_uses value) used
      → blob_cell value used + length (blob_bytes (blobs value) used) < length (canonical_tables value).blobs
  unfolding canonical_tables
  blob_within used is =
      let bytes = blob_bytes (blobs value) used in
      omega (arith, index_within as_blob (blobs value) bytes (blob_in used is), as_blob_longer bytes, padded_longer (flat_map as_blob (blobs value)))

  -- the empty blob is the first
  blobs_begin : (more : List (List ℕ)) × (blobs value ≡ [] ∷ more)
  blobs_begin = after-adds ([] ∷ []) (blob_uses value)

  pub blob_stands : (used : List Piece) → Contains (blob_uses value) used → length (canonical_tables value).blobs ≤ 134217728
      → blob_at (canonical_tables value).blobs (blob_cell value used) ≡ Some (blob_bytes (blobs value) used)
  unfolding canonical_tables
  blob_stands used is small =
      let bytes = blob_bytes (blobs value) used in
      let begins = blobs_begin in
      let short : length bytes < 0x20000000 = let within = blob_within used is in omega (arith, within, small) in
      let tail = replicate (padding (length (flat_map as_blob (blobs value)))) 0 in
      let found = blob-there begins.0 bytes tail (subst (λ items. IsIn items bytes) begins.1 (blob_in used is)) short in
      subst (λ items. blob_at (flat_map as_blob items ++ tail) (index_of as_blob items bytes) ≡ Some bytes) (sym begins.1) found

  -- ---- GUIDs

  guid_in : (guid : List ℕ) → Contains (guid_uses value) guid → IsIn (guids value) guid
  guid_in guid is = item_used (guid_uses value) guid is

  pub guid_stands : (guid : List ℕ) → Contains (guid_uses value) guid → All IsGuid (guid_uses value)
      → guid_at (canonical_tables value).guids (guid_cell value (Some guid)) ≡ Some guid
  unfolding canonical_tables
  guid_stands guid is all =
      guid-there (guids value) guid (guid_in guid is) (all_first_uses IsGuid (guid_uses value) all) (All-contains IsGuid (guid_uses value) guid all is)
