-- The stream #Pdb of a file that is laid out.
use Rattle.std.proofs.Common.{◌≡◌, ◌≢◌, ℕ, ◌+◌, ◌%◌, ◌^◌, ◌<◌, ◌≤◌, List, [], ◌∷◌, ◌++◌, length, take, drop, replicate, sum, inl, inr, refl, sym, ap, ◌∙◌, arith}
use Rattle.std.{proofs.Common.{append_assoc, length-append}, specs.Prelude.{nat_lt, slice_index, if◌then◌else◌}, specs.List.{range_with_len}}
use Rattle.std.proofs.lemmas.{Bool.{cases_eq, eq-eqb, ne_eqb}, List.{drop_at, take_at}}
use Rattle.byteorder.specs.{Endian.{little_bytes, little_number}, Numbers.{little_number-reads_back, length-bytes_low_first}}
use Rattle.ppdb_base.{specs.First.{IsAccepted}, proofs.Fields.{ends_within}, proofs.Judging.{accepted_then}}
use Rattle.metadata_root.specs.Fields.{number_at}
use Rattle.ppdb_tables.{specs.Counts.{counts_below}, proofs.RowCounts.{sum-fields}, specs.Head.{PdbFieldFaults, EntryFaults, PdbFaults, entry_in, method_token}}
use Rattle.ppdb_tables.specs.{Head.{referenced, pdb_fields, pdb_rows}, Head.PdbFieldFaults.{short, foreign, rows}, Head.EntryFaults.{entry}}
use Rattle.ppdb_build_layout.{specs.Bytes.{padding, with_rows, bits_of, counts_of, pdb_stream}, proofs.Lengths.{length-pdb}}
use Rattle.ppdb_build_layout_laws.proofs.{Bits.{number_from, bits-are, number-below}, Counts.{among, among-in, among-small, rows_back, below_all}}

-- a number after a prefix
pub number-behind : (stream prefix rest : List ℕ) (at len n : ℕ) → stream ≡ prefix ++ (little_bytes len n ++ rest) → length prefix ≡ at → n < 256 ^ len
    → number_at stream at len ≡ n
unfolding number_at
number-behind stream prefix rest at len n is e small =
    ap (λ s. little_number len (drop at s)) is ∙ ap (little_number len) (drop_at prefix (little_bytes len n ++ rest) at e)
    ∙ little_number-reads_back len n rest small

-- the token of a row
token-none : (row : ℕ) → row ≡ 0 → method_token row ≡ 0
token-none row e = ap (λ b. if b then 0 else 0x06000000 + row) (eq-eqb row 0 e)

token-some : (row : ℕ) → row ≢ 0 → method_token row ≡ 0x06000000 + row
token-some row some = ap (λ b. if b then 0 else 0x06000000 + row) (ne_eqb row 0 some)

module _ (id : List ℕ) (entry_row : ℕ) (counts : List ℕ) (long : length id ≡ 20) (small : (t : ℕ)
    → slice_index counts t ≤ 16777215) (is_row : entry_row ≤ slice_index counts 6) where
  abbrev tables : List ℕ
  tables = with_rows counts (range_with_len 0 0x2d)

  abbrev stream : List ℕ
  stream = pdb_stream id entry_row counts

  abbrev zeros : List ℕ
  zeros = replicate (padding (length (id ++ little_bytes 4 (method_token entry_row) ++ little_bytes 8 (bits_of tables) ++ counts_of counts tables))) 0

  parts : stream ≡ id ++ (little_bytes 4 (method_token entry_row) ++ (little_bytes 8 (bits_of tables) ++ (counts_of counts tables ++ zeros)))
  unfolding pdb_stream
  parts = four id (little_bytes 4 (method_token entry_row)) (little_bytes 8 (bits_of tables)) (counts_of counts tables) zeros
    where
      four : (a b c d e : List ℕ) → a ++ b ++ c ++ d ++ e ≡ a ++ (b ++ (c ++ (d ++ e)))
      four a b c d e = simp append_assoc refl

  -- the bits are below 2 ^ 2d
  bits_small : bits_of tables < 2 ^ 0x2d
  bits_small =
      let test = λ (t : ℕ). nat_lt 0 (slice_index counts t) in
      let is : bits_of tables ≡ number_from test 0 0x2d = bits-are test 0x2d 0 ∙ omega arith in
      omega (arith, is, number-below test 0x2d 0)

  bits_back : referenced stream ≡ bits_of tables
  bits_back =
      number-behind stream (id ++ little_bytes 4 (method_token entry_row)) (counts_of counts tables ++ zeros) 24 8 (bits_of tables)
      (parts ∙ sym (append_assoc id (little_bytes 4 (method_token entry_row)) (little_bytes 8 (bits_of tables) ++ (counts_of counts tables ++ zeros))))
      (length-append id (little_bytes 4 (method_token entry_row)) ∙ omega (arith, long, length-bytes_low_first 0 4 (method_token entry_row)))
      (omega (arith, bits_small))

  counts_there : drop 32 stream ≡ counts_of counts tables ++ zeros
  counts_there =
      let prefix = id ++ little_bytes 4 (method_token entry_row) ++ little_bytes 8 (bits_of tables) in
      ap (drop 32) (parts ∙ three id (little_bytes 4 (method_token entry_row)) (little_bytes 8 (bits_of tables)) (counts_of counts tables ++ zeros))
      ∙ drop_at prefix (counts_of counts tables ++ zeros) 32
      (omega (
        arith,
        long,
        length-append (id ++ little_bytes 4 (method_token entry_row)) (little_bytes 8 (bits_of tables)),
        length-append id (little_bytes 4 (method_token entry_row)),
        length-bytes_low_first 0 4 (method_token entry_row),
        length-bytes_low_first 0 8 (bits_of tables),
      ))
    where
      three : (a b c d : List ℕ) → a ++ (b ++ (c ++ d)) ≡ a ++ b ++ c ++ d
      three a b c d = simp append_assoc refl

  -- the rows of each table are reported
  pub pdb_rows_back : (t : ℕ) → t < 64 → pdb_rows stream t ≡ among counts 0 0x2d t
  pdb_rows_back t h = rows_back counts 0 0x2d (omega arith) stream zeros 32 (referenced stream) bits_back counts_there small t h

  pub id_back : take 20 stream ≡ id
  id_back = ap (take 20) parts ∙ take_at id (little_bytes 4 (method_token entry_row) ++ (little_bytes 8 (bits_of tables) ++
      (counts_of counts tables ++ zeros))) 20 long

  token_small : method_token entry_row < 256 ^ 4
  token_small =
      elim (cases_eq entry_row 0) [
        | inl none ↦ omega (arith, token-none entry_row none)
        | inr some ↦ omega (arith, token-some entry_row some, is_row, small 6)
      ]

  token_back : entry_in stream ≡ method_token entry_row
  token_back = number-behind stream id (little_bytes 8 (bits_of tables) ++ (counts_of counts tables ++ zeros)) 20 4 (method_token entry_row) parts long token_small

  pub entry_back : entry_in stream % 2 ^ 24 ≡ entry_row
  entry_back =
      elim (cases_eq entry_row 0) [
        | inl none ↦ omega (arith, token_back, token-none entry_row none, none)
        | inr some ↦ omega (arith, token_back, token-some entry_row some, is_row, small 6)
      ]

  fields_end : sum (pdb_fields stream) ≤ length stream
  fields_end =
      omega (
        arith,
        sum-fields (20 ∷ 4 ∷ 8 ∷ []) (referenced stream),
        ap (λ b. counts_below b 64) bits_back,
        below_all counts 0 0x2d (omega arith),
        length-pdb id entry_row counts long,
      )

  fields_good : IsAccepted (PdbFieldFaults stream)
  fields_good code at (short place len field from past) = omega (arith, past, fields_end, ends_within (pdb_fields stream) place len field)
  fields_good code at (foreign there high) = omega (arith, high, bits_back, bits_small)
  fields_good code at (rows t h has there many) = omega (arith, many, pdb_rows_back t h, among-small counts 0 0x2d 16777215 small t)

  entry_good : IsAccepted (EntryFaults stream)
  entry_good code at (entry some none) =
      elim (cases_eq entry_row 0) [
        | inl none_row ↦ some (token_back ∙ token-none entry_row none_row)
        | inr row ↦ none (
          entry_row,
          omega (arith, row),
          omega (
            arith,
            is_row,
            pdb_rows_back 6 (omega arith),
            among-in counts 0 0x2d 6 (omega arith) (omega arith),
          ),
          token_back ∙ token-some entry_row row,
        )
      ]

  pub head_good : IsAccepted (PdbFaults stream)
  head_good = accepted_then (PdbFieldFaults stream) (EntryFaults stream) fields_good entry_good
