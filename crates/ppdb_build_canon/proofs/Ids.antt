-- The identity stands in 20 bytes after the root, and nothing else depends on it.
use Rattle.std.proofs.Common.{◌≡◌, ℕ, ◌+◌, List, ◌++◌, length, take, drop, replicate, refl, sym, ap, ◌∙◌, append_assoc, arith, length-append, set, slice_index}
use Rattle.std.{specs.Prelude.{bit_and, bit_or}, specs.List.{range_with_len}, proofs.lemmas.List.{take_at, drop_at, length-take, length-set}}
use Rattle.byteorder.specs.Endian.{little_bytes}
use Rattle.sha2.{specs.Sha256.{sha256}, proofs.Facts256.{length-sha256}}
use Rattle.ppdb_tables.specs.Head.{method_token}
use Rattle.ppdb_values.specs.{declared.file.FileValue.{FileValue}, RawFile.{RawFile}}
use Rattle.ppdb_build_layout.specs.Bytes.{file_bytes, prefix_bytes, pdb_stream, tables_stream, padded, padding, with_rows, bits_of, counts_of, root_prefix, headers}
use Rattle.ppdb_build_layout.specs.Bytes.{stream_headers, rows_of, heaps_of}
use Rattle.ppdb_build_canon.specs.{declared.choice.IdChoice.{IdChoice}, declared.choice.IdChoice.TheVariants.{Hash, Keep}, Canon.{chosen_id, canon, with_id}}
use Rattle.ppdb_build_canon.specs.{Canon.{id_from}, Canonical.{canonical, canonical_tables}, Laws.{CanonicalFilesForgetIds, IdsStandAfterTheRoot}}

-- ---- where the identity stands

-- #Pdb without its identity
unfoldable pdb_rest : ℕ → List ℕ → List ℕ
pdb_rest entry counts =
    let tables = with_rows counts (range_with_len 0 0x2d) in
    little_bytes 4 (method_token entry) ++ little_bytes 8 (bits_of tables) ++ counts_of counts tables

abbrev pdb_tail : ℕ → List ℕ → List ℕ
pdb_tail entry counts = pdb_rest entry counts ++ replicate (padding (20 + length (pdb_rest entry counts))) 0

pdb_split : (id : List ℕ) (entry : ℕ) (counts : List ℕ) → length id ≡ 20 → pdb_stream id entry counts ≡ id ++ pdb_tail entry counts
unfolding pdb_stream pdb_rest
pdb_split id entry counts long =
    let tables = with_rows counts (range_with_len 0 0x2d) in
    let rest = pdb_rest entry counts in
    let one : id ++ little_bytes 4 (method_token entry) ++ little_bytes 8 (bits_of tables) ++ counts_of counts tables ≡ id ++ rest = simp append_assoc in
    ap padded one ∙ append_assoc id rest (replicate (padding (length (id ++ rest))) 0)
    ∙ ap (λ n. id ++ (rest ++ replicate (padding n) 0)) (length-append id rest ∙ ap (λ n. n + length rest) long)

-- the root, where #Pdb has so many bytes
abbrev root_with : RawFile → ℕ → List ℕ
root_with raw len =
    root_prefix ++ headers 112 (stream_headers len (length (tables_stream raw.tables.counts (rows_of raw.tables) (heaps_of raw.tables))) (heaps_of raw.tables))

-- what stands after #Pdb
abbrev later_streams : RawFile → List ℕ
later_streams raw = tables_stream raw.tables.counts (rows_of raw.tables) (heaps_of raw.tables) ++ (raw.tables.texts ++ (raw.tables.guids ++ raw.tables.blobs))

-- what stands after the identity
abbrev after_id : RawFile → List ℕ
after_id raw = pdb_tail raw.entry raw.tables.counts ++ later_streams raw

abbrev root_of : RawFile → List ℕ
root_of raw = root_with raw (20 + length (pdb_tail raw.entry raw.tables.counts))

file_split : (raw : RawFile) → length raw.id ≡ 20 → file_bytes raw ≡ root_of raw ++ (raw.id ++ after_id raw)
unfolding file_bytes prefix_bytes
file_split raw long =
    let pdb = pdb_stream raw.id raw.entry raw.tables.counts in
    let tables = tables_stream raw.tables.counts (rows_of raw.tables) (heaps_of raw.tables) in
    let tail = pdb_tail raw.entry raw.tables.counts in
    let split = pdb_split raw.id raw.entry raw.tables.counts long in
    let all : root_with raw (length pdb) ++ pdb ++ tables ++ raw.tables.texts ++ raw.tables.guids ++ raw.tables.blobs
    ≡ root_with raw (length pdb) ++ (pdb ++ later_streams raw) =
    simp append_assoc in
    all
    ∙ ap (λ (stream : List ℕ). root_with raw (length stream) ++ (stream ++ later_streams raw)) split
    ∙ ap (λ n. root_with raw n ++ ((raw.id ++ tail) ++ later_streams raw)) (length-append raw.id tail ∙ ap (λ n. n + length tail) long)
    ∙ ap (λ bytes. root_of raw ++ bytes) (append_assoc raw.id tail (later_streams raw))

pub id_placed : (raw : RawFile) (id : List ℕ) → length raw.id ≡ 20 → length id ≡ 20
    → file_bytes (record raw { id = id }) ≡ take 112 (file_bytes raw) ++ (id ++ drop 132 (file_bytes raw))
id_placed raw id old new =
    let root = root_of raw in
    let split = file_split raw old in
    let prefix : take 112 (file_bytes raw) ≡ root = ap (take 112) split ∙ take_at root (raw.id ++ after_id raw) 112 refl in
    let back : drop 132 (file_bytes raw) ≡ after_id raw =
    ap (drop 132) (split ∙ sym (append_assoc root raw.id (after_id raw))) ∙ drop_at (root ++ raw.id) (after_id raw) 132
    (length-append root raw.id ∙ ap (λ n. 112 + n) old) in
    file_split (record raw { id = id }) new ∙ ap (λ bytes. bytes ++ (id ++ after_id raw)) (sym prefix) ∙ ap (λ bytes. take 112 (file_bytes raw) ++ (id ++ bytes))
    (sym back)

-- a file is as long with another identity
pub same_length : (raw : RawFile) (id : List ℕ) → length raw.id ≡ 20 → length id ≡ 20 → length (file_bytes (record raw { id = id })) ≡ length (file_bytes raw)
same_length raw id old new =
    let a = ap length (file_split (record raw { id = id }) new) in
    let b = ap length (file_split raw old) in
    omega (
      arith,
      a,
      b,
      old,
      new,
      length-append (root_of raw) (id ++ after_id raw),
      length-append id (after_id raw),
      length-append (root_of raw) (raw.id ++ after_id raw),
      length-append raw.id (after_id raw),
    )

pub ids_placed : IdsStandAfterTheRoot
ids_placed = record { bytes = id_placed; len = same_length }

-- ---- the rows and heaps do not look at the identity

same_rows : (value : FileValue) (id other : List ℕ) → canonical (with_id value id) other ≡ canonical value other
unfolding canonical_tables
same_rows value id other = refl

same_choice : (value : FileValue) (id : List ℕ) → chosen_id (with_id value id) Hash ≡ chosen_id value Hash
same_choice value id = ap (λ (raw : RawFile). id_from (sha256 (file_bytes raw))) (same_rows value id (replicate 20 0))

chosen_again : (value : FileValue) (choice : IdChoice) → chosen_id (with_id value (chosen_id value choice)) choice ≡ chosen_id value choice
chosen_again value Keep = refl
chosen_again value Hash = same_choice value (chosen_id value Hash)

file_again : (value : FileValue) (choice : IdChoice) → canon (with_id value (chosen_id value choice)) choice ≡ canon value choice
file_again value choice =
    let id = chosen_id value choice in
    ap file_bytes (same_rows value id (chosen_id (with_id value id) choice)) ∙ ap (λ one. file_bytes (canonical value one)) (chosen_again value choice)

-- three bytes that change leave the length
still_long : (xs : List ℕ) (a b c : ℕ) → length xs ≡ 20 → length (set (set (set xs 7 a) 8 b) 19 c) ≡ 20
still_long xs a b c long = length-set (set (set xs 7 a) 8 b) 19 c ∙ length-set (set xs 7 a) 8 b ∙ length-set xs 7 a ∙ long

id_long : (digest : List ℕ) → length digest ≡ 32 → length (id_from digest) ≡ 20
id_long digest whole =
    let id = take 20 digest in
    still_long id (bit_or (bit_and (slice_index id 7) 0x0f) 0x40) (bit_or (bit_and (slice_index id 8) 0x3f) 0x80) (bit_or (slice_index id 19) 0x80)
    (omega (arith, length-take 20 digest, whole))

chosen_long : (value : FileValue) (choice : IdChoice) → length value.id ≡ 20 → length (chosen_id value choice) ≡ 20
chosen_long value Keep long = long
chosen_long value Hash long =
    id_long (sha256 (file_bytes (canonical value (replicate 20 0)))) (length-sha256 (file_bytes (canonical value (replicate 20 0))))

pub ids_forgotten : CanonicalFilesForgetIds
ids_forgotten = record { rows = same_rows; chosen = chosen_again; file = file_again; long = chosen_long }
