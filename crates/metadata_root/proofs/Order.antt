-- The order of the headers of a root.
use Rattle.std.proofs.{Common.{◌≡◌, ℕ, zero, suc, ◌+◌, ◌<◌, ◌≤◌, inl, inr, List, [], ◌++◌, sum, sym, ap, ◌∙◌, append_assoc, arith}, lemmas.Bool.{cases_lt}}
use Rattle.std.proofs.lemmas.List.{append-nil}
use Rattle.ppdb_base.proofs.Fields.{sum_append}
use Rattle.metadata_root.specs.Root.{fields_to, header_fields, header_place, name_len}

pub name_len_pos : (file : List ℕ) (at : ℕ) → 0 < name_len file at
name_len_pos file at = grind arith

-- a header ends where the next begins
pub next_place : (file : List ℕ) (k : ℕ) → header_place file (suc k) ≡ header_place file k + 8 + name_len file (header_place file k + 8)
unfolding fields_to
next_place file k = sum_append (fields_to file k) (header_fields file (sum (fields_to file k))) ∙ omega arith

-- the fields up to a header are the first of the root's
pub fields_split : (file : List ℕ) (k n : ℕ) → k ≤ n → (rest : List ℕ) × (fields_to file n ≡ fields_to file k ++ rest)
unfolding fields_to
fields_split file k zero le =
    let e : k ≡ 0 = omega arith in
    ([], ap (fields_to file) (sym e) ∙ sym (append-nil (fields_to file k)))
fields_split file k (suc m) le =
    elim (cases_lt m k) [
      | inl past ↦
          let e : k ≡ suc m = omega arith in
          ([], ap (fields_to file) (sym e) ∙ sym (append-nil (fields_to file k)))
      | inr before ↦
          let r = fields_split file k m before in
          let last = header_fields file (sum (fields_to file m)) in
          (r.0 ++ last, ap (λ xs. xs ++ last) r.1 ∙ append_assoc (fields_to file k) r.0 last)
    ]

-- each header ends not after a later one begins
pub ends_by_place : (file : List ℕ) (j k : ℕ) → j < k → header_place file j + 8 + name_len file (header_place file j + 8) ≤ header_place file k
ends_by_place file j zero lt = absurd (omega (arith, lt))
ends_by_place file j (suc k) lt =
    elim (cases_lt j k) [
      | inl before ↦ omega (arith, ends_by_place file j k before, next_place file k)
      | inr at ↦
          let e : j ≡ k = omega arith in
          rw e (omega (arith, next_place file k))
    ]

-- a name that begins before the end of the name of header k is that of an earlier header, or of k
pub earlier_header : (file : List ℕ) (j k b : ℕ) → header_place file j + 8 < b → b ≤ header_place file k + 8 → j < k
earlier_header file j k b lt le =
    elim (cases_lt j k) [
      | inl before ↦ before
      | inr ge ↦ elim (cases_lt k j) [
        | inl gt ↦ absurd (omega (arith, lt, le, ends_by_place file k j gt))
        | inr same ↦
            let e : j ≡ k = omega (arith, ge, same) in
            absurd (omega (arith, lt, le, ap (λ i. header_place file i) e))
      ]
    ]
