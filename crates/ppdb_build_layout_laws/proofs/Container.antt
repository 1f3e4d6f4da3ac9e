-- The root of a file that is laid out, and its streams.
use Rattle.std.proofs.Common.{◌≡◌, ℕ, ◌+◌, ◌<◌, ◌≤◌, ◌^◌, List, [], ◌++◌, length, drop, take, refl, sym, ap, ◌∙◌, append_assoc, arith, length-append}
use Rattle.std.{specs.Prelude.{codes}, proofs.lemmas.List.{append-nil, drop_at, take_at}}
use Rattle.byteorder.specs.{Endian.{little_bytes, little_number}, Numbers.{little_number-reads_back}}
use Rattle.metadata_root.specs.{declared.kind.StreamKind.{StreamKind}, declared.kind.StreamKind.TheVariants.{Pdb, Tables, Strings, Guids, Blobs}, Fields.{number_at}}
use Rattle.metadata_root.specs.{Root.{fields_to, header_place, name_at, name_of, name_place, stream_count}, Streams.{IsStream, offset_in, size_in}}
use Rattle.ppdb_build_layout.specs.{declared.rows.HeapLens.{HeapLens}, Bytes.{root_prefix, headers, stream_headers}}

-- a number that was written is read, whatever follows it
pub back : (n : ℕ) (rest : List ℕ) → n < 2 ^ 32 → little_number 4 (little_bytes 4 n ++ rest) ≡ n
back n rest small = little_number-reads_back 4 n rest (omega (arith, small))

-- a slice after a prefix
pub slice : (prefix bytes rest whole : List ℕ) (at size : ℕ) → whole ≡ prefix ++ (bytes ++ rest) → length prefix ≡ at → length bytes ≡ size
    → take size (drop at whole) ≡ bytes
slice prefix bytes rest whole at size is e s = ap (λ w. take size (drop at w)) is ∙ ap (take size) (drop_at prefix (bytes ++ rest) at e)
    ∙ take_at bytes rest size s

module _ (pdb tables texts guids blobs : List ℕ) where
  abbrev pub heaps : HeapLens
  heaps = record { texts = length texts; guids = length guids; blobs = length blobs }

  abbrev pub root : List ℕ
  root = root_prefix ++ headers 112 (stream_headers (length pdb) (length tables) heaps)

  -- a file of these streams
  unfoldable pub whole : List ℕ
  whole = root ++ pdb ++ tables ++ texts ++ guids ++ blobs

  pub length-whole : length whole ≡ 112 + length pdb + length tables + length texts + length guids + length blobs
  unfolding whole
  length-whole =
      omega (
        arith,
        length-append root pdb,
        length-append (root ++ pdb) tables,
        length-append (root ++ pdb ++ tables) texts,
        length-append (root ++ pdb ++ tables ++ texts) guids,
        length-append (root ++ pdb ++ tables ++ texts ++ guids) blobs,
      )

  -- ---- where the headers stand, and what they name

  pub five : stream_count whole ≡ 5
  unfolding whole number_at
  five = refl

  pub last : header_place whole 5 ≡ 112
  unfolding whole number_at fields_to name_at
  last = refl

  pub name_0 : name_at whole (name_place whole 0) ≡ codes "#Pdb"
  unfolding whole number_at fields_to name_at
  name_0 = refl

  pub name_1 : name_at whole (name_place whole 1) ≡ codes "#~"
  unfolding whole number_at fields_to name_at
  name_1 = refl

  pub name_2 : name_at whole (name_place whole 2) ≡ codes "#Strings"
  unfolding whole number_at fields_to name_at
  name_2 = refl

  pub name_3 : name_at whole (name_place whole 3) ≡ codes "#GUID"
  unfolding whole number_at fields_to name_at
  name_3 = refl

  pub name_4 : name_at whole (name_place whole 4) ≡ codes "#Blob"
  unfolding whole number_at fields_to name_at
  name_4 = refl

  module _ (small : length whole ≤ 134217728) where
    pub offset_0 : offset_in whole 0 ≡ 112
    unfolding whole number_at fields_to
    offset_0 = back 112 (drop 36 whole) (omega arith)

    pub offset_1 : offset_in whole 1 ≡ 112 + length pdb
    unfolding whole number_at fields_to name_at
    offset_1 = back (112 + length pdb) (drop 52 whole) (omega (arith, small, length-whole))

    pub offset_2 : offset_in whole 2 ≡ 112 + length pdb + length tables
    unfolding whole number_at fields_to name_at
    offset_2 = back (112 + length pdb + length tables) (drop 64 whole) (omega (arith, small, length-whole))

    pub offset_3 : offset_in whole 3 ≡ 112 + length pdb + length tables + length texts
    unfolding whole number_at fields_to name_at
    offset_3 = back (112 + length pdb + length tables + length texts) (drop 84 whole) (omega (arith, small, length-whole))

    pub offset_4 : offset_in whole 4 ≡ 112 + length pdb + length tables + length texts + length guids
    unfolding whole number_at fields_to name_at
    offset_4 = back (112 + length pdb + length tables + length texts + length guids) (drop 100 whole) (omega (arith, small, length-whole))

    pub size_0 : size_in whole 0 ≡ length pdb
    unfolding whole number_at fields_to
    size_0 = back (length pdb) (drop 40 whole) (omega (arith, small, length-whole))

    pub size_1 : size_in whole 1 ≡ length tables
    unfolding whole number_at fields_to name_at
    size_1 = back (length tables) (drop 56 whole) (omega (arith, small, length-whole))

    pub size_2 : size_in whole 2 ≡ length texts
    unfolding whole number_at fields_to name_at
    size_2 = back (length texts) (drop 68 whole) (omega (arith, small, length-whole))

    pub size_3 : size_in whole 3 ≡ length guids
    unfolding whole number_at fields_to name_at
    size_3 = back (length guids) (drop 88 whole) (omega (arith, small, length-whole))

    pub size_4 : size_in whole 4 ≡ length blobs
    unfolding whole number_at fields_to name_at
    size_4 = back (length blobs) (drop 104 whole) (omega (arith, small, length-whole))

    -- ---- the streams

    stream : (kind : StreamKind) (k place : ℕ) (bytes : List ℕ) → k < 5 → name_at whole (name_place whole k) ≡ name_of kind → offset_in whole k ≡ place
        → size_in whole k ≡ length bytes
        → take (length bytes) (drop place whole) ≡ bytes → place + length bytes ≤ length whole → IsStream whole kind (record { place = place; bytes = bytes })
    stream kind k place bytes counted named offset size part within = record {
      header = k;
      listed = record { counted = omega (arith, counted, five); named = named };
      place = sym offset;
      bytes = sym (ap (λ at. take (size_in whole k) (drop at whole)) offset ∙ ap (λ n. take n (drop place whole)) size ∙ part);
      within = omega (arith, offset, size, within);
    }

    pub pdb_is : IsStream whole Pdb (record { place = 112; bytes = pdb })
    unfolding whole
    pdb_is = stream Pdb 0 112 pdb (omega arith) name_0 offset_0 size_0
        (slice root pdb (tables ++ (texts ++ (guids ++ blobs))) whole 112 (length pdb) (simp append_assoc refl) refl refl) (omega (arith, length-whole))

    pub tables_are : IsStream whole Tables (record { place = 112 + length pdb; bytes = tables })
    unfolding whole
    tables_are = stream Tables 1 (112 + length pdb) tables (omega arith) name_1 offset_1 size_1
        (slice (root ++ pdb) tables (texts ++ (guids ++ blobs)) whole (112 + length pdb) (length tables) (simp append_assoc refl)
        (length-append root pdb) refl) (omega (arith, length-whole))

    pub texts_are : IsStream whole Strings (record { place = 112 + length pdb + length tables; bytes = texts })
    unfolding whole
    texts_are = stream Strings 2 (112 + length pdb + length tables) texts (omega arith) name_2 offset_2 size_2
        (slice (root ++ pdb ++ tables) texts (guids ++ blobs) whole (112 + length pdb + length tables) (length texts) (simp append_assoc refl)
        (omega (arith, length-append root pdb, length-append (root ++ pdb) tables)) refl) (omega (arith, length-whole))

    pub guids_are : IsStream whole Guids (record { place = 112 + length pdb + length tables + length texts; bytes = guids })
    unfolding whole
    guids_are = stream Guids 3 (112 + length pdb + length tables + length texts) guids (omega arith) name_3 offset_3 size_3
        (slice (root ++ pdb ++ tables ++ texts) guids blobs whole (112 + length pdb + length tables + length texts) (length guids) (simp append_assoc refl)
        (omega (arith, length-append root pdb, length-append (root ++ pdb) tables, length-append (root ++ pdb ++ tables) texts)) refl) (omega (
          arith,
          length-whole,
        ))

    pub blobs_are : IsStream whole Blobs (record { place = 112 + length pdb + length tables + length texts + length guids; bytes = blobs })
    unfolding whole
    blobs_are = stream Blobs 4 (112 + length pdb + length tables + length texts + length guids) blobs (omega arith) name_4 offset_4 size_4
        (slice (root ++ pdb ++ tables ++ texts ++ guids) blobs [] whole (112 + length pdb + length tables + length texts + length guids) (length blobs) (ap
        (λ last. root ++ pdb ++ tables ++ texts ++ guids ++ last) (sym (append-nil blobs)))
        (omega (
          arith,
          length-append root pdb,
          length-append (root ++ pdb) tables,
          length-append (root ++ pdb ++ tables) texts,
          length-append (root ++ pdb ++ tables ++ texts) guids,
        )) refl) (omega (arith, length-whole))
