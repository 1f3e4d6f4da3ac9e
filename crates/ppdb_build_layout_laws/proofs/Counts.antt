-- Row counts that are written are the row counts that are read.
use Rattle.std.proofs.Common.{◌≡◌, ℕ, suc, ◌+◌, ◌-◌, ◌*◌, ◌<◌, ◌≤◌, Bool, true, false, cond, List, [], ◌∷◌, ◌++◌, length, drop, filter, flat_map, inl, inr, refl}
use Rattle.std.{proofs.Common.{sym, ap, ◌∙◌, arith, zero-add, append_assoc, true≢false}, specs.Prelude.{nat_lt, nat_le, slice_index}, specs.List.{range_with_len}}
use Rattle.std.{specs.Int.{bit_at}, proofs.lemmas.Bool.{cases_lt, lt-ltb, le-ltb, le-leb, ltb-false, leb-true}, proofs.lemmas.List.{append-nil, drop_at, drop-drop}}
use Rattle.std.proofs.lemmas.List.{Elements.{filter-append}, Concat.{flat_map-append}}
use Rattle.byteorder.specs.{Endian.{little_bytes, little_number}, Numbers.{little_number-reads_back}}
use Rattle.metadata_root.specs.Fields.{number_at}
use Rattle.ppdb_tables.{specs.Counts.{counts_below, rows_in}, proofs.RowCounts.{rows_in-clear, rows_in-set}}
use Rattle.ppdb_build_layout.{specs.Bytes.{with_rows, bits_of, counts_of}, proofs.Lengths.{length-counts}}
use Rattle.ppdb_build_layout_laws.proofs.Bits.{counted, range-split, filter-same, filter-none, below-is}

-- the rows of a table, where it is one of some tables
abbrev pub among : List ℕ → ℕ → ℕ → ℕ → ℕ
among counts first n t = cond (nat_le first t) (cond (nat_lt t (first + n)) (slice_index counts t) 0) 0

module _ (counts : List ℕ) (first n : ℕ) where
  pub among-in : (t : ℕ) → first ≤ t → t < first + n → among counts first n t ≡ slice_index counts t
  among-in t from to = ap (λ b. cond b (cond (nat_lt t (first + n)) (slice_index counts t) 0) 0) (le-leb first t from)
      ∙ ap (λ b. cond b (slice_index counts t) 0) (lt-ltb t (first + n) to)

  pub among-before : (t : ℕ) → t < first → among counts first n t ≡ 0
  among-before t before = by (nat_le first t) refl
    where
      by : (b : Bool) → nat_le first t ≡ b → cond b (cond (nat_lt t (first + n)) (slice_index counts t) 0) 0 ≡ 0
      by true e = absurd (omega (arith, before, leb-true first t e))
      by false e = refl

  pub among-after : (t : ℕ) → first + n ≤ t → among counts first n t ≡ 0
  among-after t past = ap (λ b. cond (nat_le first t) (cond b (slice_index counts t) 0) 0) (le-ltb t (first + n) past) ∙ both (nat_le first t)
    where
      both : (b : Bool) → ◌≡◌ {A = ℕ} (cond b 0 0) 0
      both true = refl
      both false = refl

  pub among-small : (most : ℕ) → ((t : ℕ) → slice_index counts t ≤ most) → (t : ℕ) → among counts first n t ≤ most
  among-small most small t = by (nat_le first t) (nat_lt t (first + n))
    where
      by : (a b : Bool) → cond a (cond b (slice_index counts t) 0) 0 ≤ most
      by true true = small t
      by true false = omega arith
      by false b = omega arith

  -- whether a table is one of them and has rows
  abbrev pub test : ℕ → Bool
  test t = nat_lt 0 (among counts first n t)

  abbrev pub tables : List ℕ
  tables = with_rows counts (range_with_len first n)

  -- they are those of all 64 tables that pass
  pub all_tables : first + n ≤ 64 → tables ≡ filter test (range_with_len 0 64)
  all_tables end =
      let m = 64 - (first + n) in
      let all : 64 ≡ first + (n + m) = omega (arith, end) in
      let whole : range_with_len 0 64 ≡ range_with_len 0 first ++ (range_with_len first n ++ range_with_len (first + n) m) =
      ap (range_with_len 0) all ∙ range-split 0 first (n + m) ∙ ap (λ a. range_with_len 0 first ++ range_with_len a (n + m)) (zero-add first)
      ∙ ap (λ rest. range_with_len 0 first ++ rest) (range-split first n m) in
      let before : filter test (range_with_len 0 first) ≡ [] = filter-none test first 0 (λ t from to. ap (nat_lt 0) (among-before t (omega (arith, to)))) in
      let after : filter test (range_with_len (first + n) m) ≡ [] = filter-none test m (first + n) (λ t from to. ap (nat_lt 0) (among-after t from)) in
      let these : tables ≡ filter test (range_with_len first n) = filter-same (λ table. nat_lt 0 (slice_index counts table)) test n first (λ t from to. ap
      (nat_lt 0) (sym (among-in t from to))) in
      these
      ∙ sym (append-nil (filter test (range_with_len first n)))
      ∙ ap (λ rest. filter test (range_with_len first n) ++ rest) (sym after)
      ∙ sym (filter-append test (range_with_len first n) (range_with_len (first + n) m))
      ∙ ap (λ prefix. prefix ++ filter test (range_with_len first n ++ range_with_len (first + n) m)) (sym before)
      ∙ sym (filter-append test (range_with_len 0 first) (range_with_len first n ++ range_with_len (first + n) m))
      ∙ ap (filter test) (sym whole)

  module _ (end : first + n ≤ 64) where
    pub bit_of : (t : ℕ) → t < 64 → bit_at (bits_of tables) t ≡ cond (test t) 1 0
    bit_of t h = ap (λ ts. bit_at (bits_of ts) t) (all_tables end) ∙ counted test 64 t h

    pub below : (t : ℕ) → t ≤ 64 → counts_below (bits_of tables) t ≡ length (filter test (range_with_len 0 t))
    below t h = below-is test (bits_of tables) t (λ u lt. bit_of u (omega (arith, h, lt)))

    pub below_all : counts_below (bits_of tables) 64 ≡ length tables
    below_all = below 64 (omega arith) ∙ ap length (sym (all_tables end))

    -- the row count of a table stands after those of the tables below it
    stands : (t : ℕ) → t < 64 → test t ≡ true → (rest : List ℕ)
        → (more : List ℕ) × (drop (4 * counts_below (bits_of tables) t) (counts_of counts tables ++ rest) ≡ little_bytes 4 (slice_index counts t) ++ more)
    stands t h some rest =
        let spelled = λ (table : ℕ). little_bytes 4 (slice_index counts table) in
        let m = 64 - (t + 1) in
        let prefix = filter test (range_with_len 0 t) in
        let last = filter test (range_with_len (t + 1) m) in
        let all : 64 ≡ t + suc m = omega (arith, h) in
        let split : filter test (range_with_len 0 64) ≡ prefix ++ (t ∷ last) =
        ap (λ k. filter test (range_with_len 0 k)) all
        ∙ ap (filter test) (range-split 0 t (suc m) ∙ ap (λ a. range_with_len 0 t ++ range_with_len a (suc m)) (zero-add t))
        ∙ filter-append test (range_with_len 0 t) (range_with_len t (suc m))
        ∙ ap (λ b. prefix ++ cond b (t ∷ last) last) some in
        let whole : counts_of counts tables ++ rest ≡ flat_map spelled prefix ++ (spelled t ++ (flat_map spelled last ++ rest)) =
        ap (λ ts. counts_of counts ts ++ rest) (all_tables end ∙ split)
        ∙ ap (λ bytes. bytes ++ rest) (flat_map-append spelled prefix (t ∷ last))
        ∙ append_assoc (flat_map spelled prefix) (spelled t ++ flat_map spelled last) rest
        ∙ ap (λ bytes. flat_map spelled prefix ++ bytes) (append_assoc (spelled t) (flat_map spelled last) rest) in
        let place : length (flat_map spelled prefix) ≡ 4 * counts_below (bits_of tables) t = length-counts counts prefix
        ∙ ap (λ k. 4 * k) (sym (below t (omega (arith, h)))) in (
          flat_map spelled last ++ rest,
          ap (drop (4 * counts_below (bits_of tables) t)) whole
              ∙ drop_at (flat_map spelled prefix) (spelled t ++ (flat_map spelled last ++ rest)) (4 * counts_below (bits_of tables) t) place,
        )

    -- the rows that are read are the rows of the table
    pub rows_back : (stream rest : List ℕ) (base bits : ℕ) → bits ≡ bits_of tables → drop base stream ≡ counts_of counts tables ++ rest → ((t : ℕ)
        → slice_index counts t ≤ 16777215)
        → (t : ℕ) → t < 64 → rows_in stream base bits t ≡ among counts first n t
    unfolding number_at
    rows_back stream rest base bits is here small t h =
        ap (λ b. rows_in stream base b t) is ∙ by (test t) refl
      where
        set : test t ≡ true → rows_in stream base (bits_of tables) t ≡ slice_index counts t
        set some =
            let at = stands t h some rest in
            let k = 4 * counts_below (bits_of tables) t in
            rows_in-set stream base (bits_of tables) t (bit_of t h ∙ ap (λ b. cond b 1 0) some)
            ∙ ap (little_number 4) (sym (drop-drop k base stream) ∙ ap (drop k) here ∙ at.1)
            ∙ little_number-reads_back 4 (slice_index counts t) at.0 (omega (arith, small t))

        none : test t ≡ true → among counts first n t ≡ 0 → ⊥
        none some e = true≢false (sym some ∙ ap (nat_lt 0) e)

        same : test t ≡ true → slice_index counts t ≡ among counts first n t
        same some =
            elim (cases_lt t first) [
              | inl before ↦ absurd (none some (among-before t before))
              | inr from ↦ elim (cases_lt t (first + n)) [
                | inl to ↦ sym (among-in t from to)
                | inr past ↦ absurd (none some (among-after t past))
              ]
            ]

        zero_one : ◌≡◌ {A = ℕ} 0 1 → ⊥
        zero_one e = omega (arith, e)

        nothing : test t ≡ false → 0 ≡ among counts first n t
        nothing e = omega (arith, ltb-false 0 (among counts first n t) e)

        by : (b : Bool) → test t ≡ b → rows_in stream base (bits_of tables) t ≡ among counts first n t
        by true some = set some ∙ same some
        by false e =
            rows_in-clear stream base (bits_of tables) t (λ one. zero_one (sym (bit_of t h ∙ ap (λ b. cond b 1 0) e) ∙ one))
            ∙ nothing e
