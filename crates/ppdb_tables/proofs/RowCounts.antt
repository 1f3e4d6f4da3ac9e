-- The places and values of row counts.
use Rattle.std.proofs.Common.{◌≡◌, ◌≢◌, ℕ, zero, suc, ◌+◌, ◌-◌, ◌*◌, ◌<◌, ◌≤◌, inl, inr, List, ◌∷◌, ◌++◌, sum, replicate, refl, sym, ap, ◌∙◌, append_assoc, arith}
use Rattle.std.{proofs.Common.{add-one, if◌then◌else◌}, specs.Prelude.{◌==◌}, specs.Int.{bit_at}, proofs.lemmas.Bool.{cases_lt, cases_eq, eq-eqb, ne_eqb}}
use Rattle.std.proofs.lemmas.List.{replicate-append-replicate}
use Rattle.ppdb_base.proofs.Fields.{sum_append, sum_cons}
use Rattle.metadata_root.specs.Fields.{number_at}
use Rattle.ppdb_tables.specs.Counts.{HasCount, counts_below, count_fields, count_place, rows_in}

pub sum-replicate : (n x : ℕ) → sum (replicate n x) ≡ x * n
sum-replicate zero x = omega arith
sum-replicate (suc n) x = sum_cons x (replicate n x) ∙ omega (arith, sum-replicate n x)

pub counts-zero : (bits : ℕ) → counts_below bits 0 ≡ 0
unfolding counts_below
counts-zero bits = refl

pub counts-step : (bits t : ℕ) → counts_below bits (suc t) ≡ counts_below bits t + bit_at bits t
unfolding counts_below
counts-step bits t = refl

pub counts_mono : (bits t u : ℕ) → t ≤ u → counts_below bits t ≤ counts_below bits u
counts_mono bits t zero le = let e : t ≡ 0 = omega arith in rw e (omega arith)
counts_mono bits t (suc u) le =
    elim (cases_lt u t) [
      | inl past ↦ let e : t ≡ suc u = omega arith in rw e (omega arith)
      | inr before ↦ omega (arith, counts_mono bits t u before, counts-step bits u)
    ]

-- ---- the fields, cut after the first n row counts

pub cut : List ℕ → ℕ → List ℕ
cut prefix n = prefix ++ replicate n 4

pub sum-cut : (prefix : List ℕ) (n : ℕ) → sum (cut prefix n) ≡ sum prefix + 4 * n
unfolding cut
sum-cut prefix n = omega (arith, sum_append prefix (replicate n 4), sum-replicate n 4)

-- all fields are those after the last row count
pub sum-fields : (prefix : List ℕ) (bits : ℕ) → sum (prefix ++ count_fields bits) ≡ sum prefix + 4 * counts_below bits 64
sum-fields prefix bits = omega (arith, sum_append prefix (count_fields bits), sum-replicate (counts_below bits 64) 4)

pub fields_cut : (prefix : List ℕ) (bits n : ℕ) → n ≤ counts_below bits 64 → prefix ++ count_fields bits ≡ cut prefix n ++ replicate (counts_below bits 64 - n) 4
unfolding cut
fields_cut prefix bits n le =
    let total = counts_below bits 64 in
    let e : n + (total - n) ≡ total = omega arith in
    ap (λ xs. prefix ++ xs) (ap (λ m. replicate m 4) (sym e) ∙ sym (replicate-append-replicate n (total - n) 4))
    ∙ sym (append_assoc prefix (replicate n 4) (replicate (total - n) 4))

-- the row count of a table is one of the fields
pub one_more : (bits table : ℕ) → table < 64 → HasCount bits table → suc (counts_below bits table) ≤ counts_below bits 64
one_more bits table lt set = omega (arith, counts-step bits table, set, counts_mono bits (suc table) 64 lt)

pub count_cut : (prefix : List ℕ) (bits table : ℕ) → table < 64 → HasCount bits table
    → prefix ++ count_fields bits ≡ cut prefix (counts_below bits table) ++ (4 ∷ replicate (counts_below bits 64 - suc (counts_below bits table)) 4)
count_cut prefix bits table lt set =
    let n = counts_below bits table in
    let total = counts_below bits 64 in
    let le = one_more bits table lt set in
    let one : total - n ≡ suc (total - suc n) = omega (arith, le) in
    fields_cut prefix bits n (omega (arith, le)) ∙ ap (λ m. cut prefix n ++ replicate m 4) one

-- ---- a table and the next

module _ (first bits : ℕ) where
  pub earlier_table : (t table : ℕ) → count_place first bits t < count_place first bits table → t < table
  earlier_table t table before =
      elim (cases_lt t table) [
        | inl before_it ↦ before_it
        | inr after_it ↦ absurd (omega (arith, before, counts_mono bits table t after_it))
      ]

  -- two tables that have a row count at one place are one
  pub same_table : (t table : ℕ) → HasCount bits t → HasCount bits table → count_place first bits t ≡ count_place first bits table → t ≡ table
  same_table t table set_t set same =
      elim (cases_lt t table) [
        | inl before ↦ absurd (omega (arith, same, counts-step bits t, set_t, counts_mono bits (suc t) table before))
        | inr ge ↦ elim (cases_lt table t) [
          | inl after_it ↦ absurd (omega (arith, same, counts-step bits table, set, counts_mono bits (suc table) t after_it))
          | inr le ↦ omega (arith, ge, le)
        ]
      ]

  pub next_place : (table : ℕ) → count_place first bits (suc table) ≡ count_place first bits table + 4 * bit_at bits table
  next_place table = omega (arith, counts-step bits table)

module _ (stream : List ℕ) (first bits table : ℕ) where
  -- a table that has no row count has no rows
  pub rows_in-clear : (HasCount bits table → ⊥) → rows_in stream first bits table ≡ 0
  rows_in-clear clear = rw (ne_eqb _ _ clear) refl

  pub rows_in-set : HasCount bits table → rows_in stream first bits table ≡ number_at stream (count_place first bits table) 4
  rows_in-set set = rw (eq-eqb _ _ set) refl

-- a table that has rows has a row count
pub has_count : (stream : List ℕ) (first bits table : ℕ) → rows_in stream first bits table ≢ 0 → HasCount bits table
has_count stream first bits table some =
    elim (cases_eq (bit_at bits table) 1) [
      | inl set ↦ set
      | inr clear ↦ absurd (some (rows_in-clear stream first bits table clear))
    ]

module _ (stream : List ℕ) (first read bits table at : ℕ) (same : read ≡ bits) (here : at ≡ count_place first bits table) where
  -- the number that was read at the place of a table's row count is the table's rows
  pub count_is : (count : ℕ) → count ≡ (if bit_at read table == 1 then number_at stream at 4 else 0) → count ≡ rows_in stream first bits table
  count_is count is = rw (← here, ← same) is

  -- and where it ends the next table's stands
  pub place_is : (end : ℕ) → end ≡ at + 4 * bit_at read table → end ≡ count_place first bits (table + 1)
  place_is end is = rw add-one (is ∙ omega (arith, here, ap (λ b. bit_at b table) same, next_place first bits table))
