-- The references of a canonical document: its name, the parts of the name, and its hash.
use Rattle.std.proofs.Common.{◌≡◌, ◌≢◌, ℕ, ◌+◌, ◌<◌, ◌≤◌, ◌^◌, Bool, true, false, List, [], ◌∷◌, ◌++◌, length, map, flat_map, refl, sym, ap, subst, ◌∙◌, arith}
use Rattle.std.{proofs.Common.{sum_by}, specs.Prelude.{All, Some, ◌==◌, if◌then◌else◌}, specs.List.{Contains, list_any, slice_split, onto_first}}
use Rattle.std.proofs.lemmas.List.{Elements.{All-cons, All-nil}, Sums.{sum_by-append, sum_by-cons}}
use Rattle.cli_ints.specs.Shortest.{short_unsigned}
use Rattle.blob_grammar.specs.declared.places.PlacedIndex.{PlacedIndex}
use Rattle.ppdb_heaps.{specs.Heaps.{blob_at}, specs.Names.{IsWritable, indexes_at, name_indexes, name_spelling}, proofs.WrittenNames.{written_indexes}}
use Rattle.ppdb_values.specs.declared.file.{DocumentValue.{DocumentValue}, FileValue.{FileValue}}
use Rattle.ppdb_verify_rules.specs.Blobs.{in_blob}
use Rattle.ppdb_verify_total.specs.HeapUses.{HeapUse, blob_in, in_name, len_of, named_inside, of_document}
use Rattle.ppdb_build_heaps.specs.Uses.{Piece, index, held_by, plain, with_held, blob_bytes, piece_bytes}
use Rattle.ppdb_build_canon.specs.{Uses.{blobs, cell_blobs, name_pieces, parts_of, separator_of}, Canonical.{blob_cell, canonical_tables, document_row}}
use Rattle.ppdb_build_canon.proofs.{Among.{among_first, among_later}, Stand.{blob_stands}, Uses.{document_blobs, hash_named, name_named, named_used}}
use Rattle.ppdb_build_total_laws.proofs.Held.{cell_len, held_are, held_small, held_spelled, held_there, place_of, spelled_len, with_held_len}

-- ---- the separator and the parts

one_byte : (name : List ℕ) → separator_of name < 0x80
one_byte name = by (list_any (λ b. b == 0x2f) name) (list_any (λ b. b == 0x5c) name)
  where
    by : (slash backslash : Bool) → (if slash then 0x2f else (if backslash then 0x5c else 0)) < 0x80
    by true backslash = omega arith
    by false true = omega arith
    by false false = omega arith

onto_some : (x : ℕ) (parts : List (List ℕ)) → onto_first x parts ≢ []
onto_some x [] none = cc
onto_some x (part ∷ parts) none = cc

split_some : (p : ℕ → Bool) (name : List ℕ) → slice_split p name ≢ []
split_some p [] = λ none. cc
split_some p (b ∷ name) = by (p b)
  where
    by : (is : Bool) → (if is then [] ∷ slice_split p name else onto_first b (slice_split p name)) ≢ []
    by true none = cc
    by false none = onto_some b (slice_split p name) none

some_parts : (name : List ℕ) → parts_of name ≢ []
some_parts name = by (separator_of name == 0)
  where
    by : (whole : Bool) → (if whole then name ∷ [] else slice_split (λ b. b == separator_of name) name) ≢ []
    by true none = cc
    by false none = split_some (λ b. b == separator_of name) name none

no_map : {X Y : Type 0} (f : X → Y) (xs : List X) → xs ≢ [] → map f xs ≢ []
no_map f [] some none = some refl
no_map f (x ∷ xs) some none = cc

-- ---- the lengths of what a name holds

inside_len : (heap : List ℕ) (table row column at : ℕ) (indexes : List ℕ)
    → sum_by (λ (r : HeapUse). r.len) (named_inside heap table row column (indexes_at at indexes)) ≡ sum_by (λ n. len_of (blob_at heap n)) indexes
inside_len heap table row column at [] = refl
inside_len heap table row column at (n ∷ ns) =
    let rest = inside_len heap table row column (at + length (short_unsigned n)) ns in
    omega (
      arith,
      rest,
      sum_by-cons (λ (r : HeapUse). r.len) (record { at = in_blob table row column at; len = len_of (blob_at heap n) })
          (named_inside heap table row column (indexes_at (at + length (short_unsigned n)) ns)),
      sum_by-cons (λ n. len_of (blob_at heap n)) n ns,
    )

module _ (value : FileValue) (small : length (canonical_tables value).blobs ≤ 134217728) where
  abbrev heap : List ℕ
  heap = (canonical_tables value).blobs

  -- some of the parts of a name
  abbrev AreHeld : List Piece → List (List ℕ) → Type 0
  AreHeld pieces parts = (content : List ℕ) → Contains parts content → Contains (flat_map held_by pieces) content

  module _ (pieces : List Piece) (is : Contains (cell_blobs value) pieces) where
    spelled : (parts : List (List ℕ)) → AreHeld pieces parts
        → flat_map (piece_bytes (blobs value)) (map index parts) ≡ flat_map short_unsigned (map (place_of value small) parts)
    spelled [] held = refl
    spelled (part ∷ parts) held =
        ap (λ bytes. bytes ++ flat_map (piece_bytes (blobs value)) (map index parts))
        (held_spelled value small pieces is part (held part (among_first part parts)))
        ∙ ap (λ rest. short_unsigned (place_of value small part) ++ rest) (spelled parts (λ content one. held content (among_later part content parts one)))

    all_small : (parts : List (List ℕ)) → AreHeld pieces parts → All (λ n. n < 2 ^ 29) (map (place_of value small) parts)
    all_small [] held = All-nil (λ n. n < 2 ^ 29)
    all_small (part ∷ parts) held =
        All-cons (λ n. n < 2 ^ 29) (place_of value small part) (map (place_of value small) parts)
        (held_small value small pieces is part (held part (among_first part parts)))
        (all_small parts (λ content one. held content (among_later part content parts one)))

    all_there : (parts : List (List ℕ)) → AreHeld pieces parts → map (blob_at heap) (map (place_of value small) parts) ≡ map (λ content. Some content) parts
    all_there [] held = refl
    all_there (part ∷ parts) held =
        ap (λ o. o ∷ map (blob_at heap) (map (place_of value small) parts)) (held_there value small pieces is part (held part (among_first part parts)))
        ∙ ap (λ rest. Some part ∷ rest) (all_there parts (λ content one. held content (among_later part content parts one)))

    all_len : (parts : List (List ℕ)) → AreHeld pieces parts → sum_by (λ n. len_of (blob_at heap n)) (map (place_of value small) parts) ≡ sum_by length parts
    all_len [] held = refl
    all_len (part ∷ parts) held =
        let rest = all_len parts (λ content one. held content (among_later part content parts one)) in
        let here : len_of (blob_at heap (place_of value small part)) ≡ length part =
        ap len_of (held_there value small pieces is part (held part (among_first part parts))) in
        omega (
          arith,
          rest,
          here,
          sum_by-cons (λ n. len_of (blob_at heap n)) (place_of value small part) (map (place_of value small) parts),
          sum_by-cons length part parts,
        )

  module _ (document : DocumentValue) (is : Contains value.documents document) where
    abbrev pieces : List Piece
    pieces = name_pieces document.name

    abbrev parts : List (List ℕ)
    parts = parts_of document.name

    named : Contains (cell_blobs value) pieces
    named = name_named value document is

    parts_held : AreHeld pieces parts
    parts_held content one = subst (λ contents. Contains contents content) (sym (held_are parts)) one

    written : blob_bytes (blobs value) pieces ≡ name_spelling (separator_of document.name) (map (place_of value small) parts)
    written = ap (λ rest. separator_of document.name ∷ rest) (spelled pieces named parts parts_held)

    writable : IsWritable heap (separator_of document.name) (map (place_of value small) parts) parts
    writable = record {
      one_byte = one_byte document.name;
      some = no_map (place_of value small) parts (some_parts document.name);
      small = all_small pieces named parts parts_held;
      there = all_there pieces named parts parts_held;
    }

    indexes : in_name (canonical_tables value) (blob_at heap (blob_cell value pieces)) ≡ indexes_at 1 (map (place_of value small) parts)
    indexes =
        ap (in_name (canonical_tables value)) (blob_stands value pieces (named_used value pieces named) small)
        ∙ ap (name_indexes heap) written
        ∙ written_indexes heap (separator_of document.name) (map (place_of value small) parts) parts writable

    parts_len : (row : ℕ) → sum_by (λ (r : HeapUse). r.len)
        (named_inside heap 0x30 row 0 (in_name (canonical_tables value) (blob_at heap (blob_cell value pieces)))) ≡ sum_by length parts
    parts_len row =
        ap (λ (all : List PlacedIndex). sum_by (λ (r : HeapUse). r.len) (named_inside heap 0x30 row 0 all)) indexes
        ∙ inside_len heap 0x30 row 0 1 (map (place_of value small) parts) ∙ all_len pieces named parts parts_held

    -- what a document's row names
    pub document_len : (row : ℕ) → sum_by (λ (r : HeapUse). r.len) (of_document (canonical_tables value) (row, document_row value document))
        ≡ sum_by (spelled_len value small) (flat_map with_held (document_blobs document))
    document_len row =
        let inside = named_inside heap 0x30 row 0 (in_name (canonical_tables value) (blob_at heap (blob_cell value pieces))) in
        let first = blob_in (canonical_tables value) 0x30 row 0 (blob_cell value pieces) in
        let last = blob_in (canonical_tables value) 0x30 row 2 (blob_cell value (plain document.hash)) in
        let name = cell_len value small pieces named in
        let hash = cell_len value small (plain document.hash) (hash_named value document is) in
        let within = parts_len row in
        let held : sum_by length (flat_map held_by pieces) ≡ sum_by length parts = ap (λ contents. sum_by length contents) (held_are parts) in
        omega (
          arith,
          name,
          hash,
          within,
          held,
          sum_by-cons (λ (r : HeapUse). r.len) first (inside ++ last ∷ []),
          sum_by-append (λ (r : HeapUse). r.len) inside (last ∷ []),
          sum_by-append (spelled_len value small) (with_held pieces) (with_held (plain document.hash) ++ []),
          with_held_len value small pieces,
        )
