-- The tables that have rows, one after another.
use Rattle.std.proofs.Common.{◌≡◌, ℕ, zero, suc, ◌+◌, ◌<◌, ◌≤◌, ◌^◌, ◌*◌, ◌%◌, cond, List, [], ◌∷◌, ◌++◌, length, flat_map, ap, ◌∙◌, arith, add-one, length-append}
use Rattle.std.{specs.Prelude.{nat_lt, slice_index}, specs.List.{range_with_len}, proofs.lemmas.Bool.{lt-ltb, le-ltb}, proofs.lemmas.List.{append-nil}}
use Rattle.std.proofs.{lemmas.List.Elements.{filter-append}, lemmas.List.Concat.{flat_map-append}, lemmas.List.Sums.{sum_by_push}, Math.Nat.{pow-suc}}
use Rattle.std.proofs.Math.Pow.{pow-lt}
use Rattle.byteorder.specs.Endian.{little_bytes}
use Rattle.ppdb_build_layout.specs.Bytes.{with_rows, bits_of, counts_of}

range-suc : (first n : ℕ) → range_with_len first (suc n) ≡ range_with_len first n ++ (first + n) ∷ []
range-suc first zero = ap (λ t. t ∷ []) (omega arith)
range-suc first (suc n) = ap (λ rest. first ∷ rest) (range-suc (first + 1) n) ∙ ap (λ t. first ∷ (range_with_len (first + 1) n ++ t ∷ [])) (omega arith)

range-push : (first n : ℕ) → range_with_len first (n + 1) ≡ range_with_len first n ++ (first + n) ∷ []
range-push first n = ap (range_with_len first) (add-one n) ∙ range-suc first n

module _ (counts : List ℕ) (first n : ℕ) where
  next : with_rows counts (range_with_len first (n + 1)) ≡ with_rows counts (range_with_len first n) ++ cond (nat_lt 0 (slice_index counts (first + n)))
      ((first + n) ∷ []) []
  next = ap (with_rows counts) (range-push first n) ∙ filter-append (λ table. nat_lt 0 (slice_index counts table)) (range_with_len first n) ((first + n) ∷ [])

  pub next-some : 0 < slice_index counts (first + n)
      → with_rows counts (range_with_len first (n + 1)) ≡ with_rows counts (range_with_len first n) ++ (first + n) ∷ []
  next-some some = next ∙ ap (λ b. with_rows counts (range_with_len first n) ++ cond b ((first + n) ∷ []) []) (lt-ltb 0 (slice_index counts (first + n)) some)

  pub next-none : slice_index counts (first + n) ≤ 0 → with_rows counts (range_with_len first (n + 1)) ≡ with_rows counts (range_with_len first n)
  next-none none = next ∙ ap (λ b. with_rows counts (range_with_len first n) ++ cond b ((first + n) ∷ []) []) (le-ltb 0 (slice_index counts
      (first + n)) none) ∙ append-nil (with_rows counts (range_with_len first n))

  -- the bits of one table more
  pub bits-some : 0 < slice_index counts (first + n)
      → bits_of (with_rows counts (range_with_len first (n + 1))) ≡ bits_of (with_rows counts (range_with_len first n)) + 2 ^ (first + n)
  bits-some some = ap bits_of (next-some some) ∙ sum_by_push (λ table. 2 ^ table) (with_rows counts (range_with_len first n)) (first + n)

  pub counts-some : 0 < slice_index counts (first + n)
      → counts_of counts (with_rows counts (range_with_len first (n + 1))) ≡ counts_of counts (with_rows counts (range_with_len first n)) ++ little_bytes 4
      (slice_index counts (first + n))
  counts-some some =
      let spelled = λ (table : ℕ). little_bytes 4 (slice_index counts table) in
      let tables = with_rows counts (range_with_len first n) in
      ap (counts_of counts) (next-some some) ∙ flat_map-append spelled tables ((first + n) ∷ [])
      ∙ ap (λ last. flat_map spelled tables ++ last) (append-nil (spelled (first + n)))

  pub length-some : 0 < slice_index counts (first + n)
      → length (with_rows counts (range_with_len first (n + 1))) ≡ length (with_rows counts (range_with_len first n)) + 1
  length-some some = ap length (next-some some) ∙ length-append (with_rows counts (range_with_len first n)) ((first + n) ∷ [])

pub doubled : (n : ℕ) → 2 ^ (n + 1) ≡ 2 ^ n + 2 ^ n
doubled n = rw add-one (pow-suc 2 n ∙ omega arith)

-- a bit of 64 is a number of 64 bits
pub one_bit : (k : ℕ) → k < 64 → (1 * 2 ^ k) % 18446744073709551616 ≡ 2 ^ k
one_bit k h = let small = pow-lt {i = k} {j = 64} h in omega (arith, small)
