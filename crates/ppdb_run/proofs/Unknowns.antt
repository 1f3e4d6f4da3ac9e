-- The first custom record of a kind that is neither read nor passed on, looked for row by row.
use Rattle.std.proofs.Common.{ℕ, zero, suc, ◌≡◌, ◌+◌, ◌-◌, ◌≤◌, ◌<◌, List, [], ◌∷◌, length, map, drop, Bool, true, false, Option, Some, None, refl, sym, ◌∙◌, ap}
use Rattle.std.{proofs.Common.{subst, arith}, specs.Prelude.{slice_get, if◌then◌else◌}, specs.List.{enumerate_from, find}}
use Rattle.custom_info.specs.Kinds.{kind_of}
use Rattle.ppdb_tables.specs.{declared.rows.CustomRow.{CustomRow}, RawTables.{RawTables, row_at}}
use Rattle.ppdb_values.specs.{declared.custom.CustomValue.{CustomValue}, Customs.{custom_of, kind_in}}
use Rattle.ppdb_merge_fits.specs.Clashes.{is_unknown}

module _ (marks : List (List ℕ)) (raw : RawTables) where
  abbrev Test : ℕ × CustomValue → Bool
  Test custom = is_unknown (kind_of marks custom.1.kind)

  -- the first from a row on, of rows with their numbers
  abbrev found : ℕ → List CustomRow → Option (ℕ × CustomValue)
  found n rows = find Test (enumerate_from n (map (custom_of raw) rows))

  -- no row before this one is of such a kind
  abbrev pub Passed : ℕ → Type 0
  Passed row = found row (drop (row - 1) raw.customs) ≡ found 1 raw.customs

  head_of : (rows : List CustomRow) (i : ℕ) (cells : CustomRow) → slice_get rows i ≡ Some cells → drop i rows ≡ cells ∷ drop (suc i) rows
  head_of [] i cells e = absurd cc
  head_of (x ∷ rows) zero cells e = cc
  head_of (x ∷ rows) (suc i) cells e = head_of rows i cells e

  -- the first from a row on, by the row
  from_head : (n : ℕ) (cells : CustomRow) (rest rows : List CustomRow) → rows ≡ cells ∷ rest → found n rows ≡ found n (cells ∷ rest)
  from_head n cells rest rows e = ap (found n) e

  is_first : (n : ℕ) (cells : CustomRow) (rest : List CustomRow) → is_unknown (kind_of marks (kind_in raw cells)) ≡ true
      → found n (cells ∷ rest) ≡ Some (n, custom_of raw cells)
  is_first n cells rest is = ap (λ (b : Bool). if b then Some (n, custom_of raw cells) else found (n + 1) rest) is

  is_later : (n : ℕ) (cells : CustomRow) (rest : List CustomRow) → is_unknown (kind_of marks (kind_in raw cells)) ≡ false
      → found n (cells ∷ rest) ≡ found (n + 1) rest
  is_later n cells rest is = ap (λ (b : Bool). if b then Some (n, custom_of raw cells) else found (n + 1) rest) is

  at_index : (i : ℕ) → Passed (suc i) → found (suc i) (drop i raw.customs) ≡ found 1 raw.customs
  at_index i h = let same : suc i - 1 ≡ i = omega arith in subst (λ n. found (suc i) (drop n raw.customs) ≡ found 1 raw.customs) same h

  pub at_unknown : (row : ℕ) (cells : CustomRow) → row_at raw.customs row ≡ Some cells → is_unknown (kind_of marks (kind_in raw cells)) ≡ true → Passed row
      → found 1 raw.customs ≡ Some (row, custom_of raw cells)
  at_unknown zero cells here is h = absurd cc
  at_unknown (suc i) cells here is h =
      sym (at_index i h) ∙ (from_head (suc i) cells (drop (suc i) raw.customs) (drop i raw.customs) (head_of raw.customs i cells here)
      ∙ is_first (suc i) cells (drop (suc i) raw.customs) is)

  pub past_known : (row : ℕ) (cells : CustomRow) → row_at raw.customs row ≡ Some cells → is_unknown (kind_of marks (kind_in raw cells)) ≡ false → Passed row
      → Passed (row + 1)
  past_known zero cells here is h = absurd cc
  past_known (suc i) cells here is h =
      let next : suc i + 1 - 1 ≡ suc i = omega arith in
      subst (λ n. found (suc i + 1) (drop n raw.customs) ≡ found 1 raw.customs) (sym next)
      (sym (from_head (suc i) cells (drop (suc i) raw.customs) (drop i raw.customs) (head_of raw.customs i cells here)
      ∙ is_later (suc i) cells (drop (suc i) raw.customs) is) ∙ at_index i h)

  pub none_unknown : (row : ℕ) → length raw.customs < row → Passed row → found 1 raw.customs ≡ None
  none_unknown row past h = sym h ∙ ap (found row) (drop_all raw.customs (row - 1) (omega (arith, past)))
    where
      drop_all : (rows : List CustomRow) (n : ℕ) → length rows ≤ n → drop n rows ≡ []
      drop_all [] zero le = refl
      drop_all [] (suc n) le = refl
      drop_all (x ∷ rows) zero le = absurd (omega (arith, le))
      drop_all (x ∷ rows) (suc n) le = drop_all rows n (omega (arith, le))
