-- How a function that judges a file in the order of places is shown to answer the first fault: it keeps
-- `IsJudgedTo Faults here`, that no fault comes before here, and moves here on.
use Rattle.std.proofs.Common.{◌≡◌, ℕ, suc, ◌<◌, ◌≤◌, ◌⊎◌, inl, inr, List, [], ◌∷◌, ap, subst, ◌∙◌, arith}
use Rattle.ppdb_base.specs.{declared.code.Code.{Code}, declared.fault.Place.{Place}, declared.fault.Fault.{Fault}, Place.{ComesBefore, numbers, number_of, at_byte}}
use Rattle.ppdb_base.specs.First.{IsAccepted, IsJudgedTo, IsFirst, Then}

-- the numbers of a place alone, to which all is judged before a code is tried there
abbrev pub place_numbers : Place → List ℕ
place_numbers at = at.part ∷ at.table ∷ at.row ∷ at.column ∷ at.byte ∷ []

-- a fault that comes before a code at a place comes before the place, or is a lesser code at it
before_code : (d c : Code) (q p : Place) → ComesBefore (numbers d q) (numbers c p)
    → (ComesBefore (numbers d q) (place_numbers p)) ⊎ ((q ≡ p) × (number_of d < number_of c))
before_code d c q p h = grind arith

module _ (Faults : Code → Place → Type 0) where
  -- no fault comes before a place: the least code that is a fault there is the first fault
  pub first_at : (code : Code) (at : Place) → IsJudgedTo Faults (place_numbers at) → Faults code at
      → ((other : Code) → Faults other at → number_of code ≤ number_of other) → IsFirst Faults (record { code = code; place = at })
  first_at code at judged invalid least = record {
    invalid = invalid;
    least = λ other place is_invalid before.
        elim (before_code other code place at before) [
          | inl earlier ↦ judged other place is_invalid earlier
          | inr here ↦ absurd (omega (arith, here.1, least other (subst (λ p. Faults other p) here.0 is_invalid)))
        ];
  }

  -- an accepted file has no first fault
  pub first_not_accepted : (f : Fault) → IsFirst Faults f → IsAccepted Faults → ⊥
  first_not_accepted f first accepted = accepted f.code f.place first.invalid

module _ (Before After : Code → Place → Type 0) where
  pub first_of_before : (f : Fault) → IsFirst Before f → IsFirst (Then Before After) f
  first_of_before f first = record {
    invalid = inl first.invalid;
    least = λ code at is_invalid before.
        elim is_invalid [
          | inl b ↦ first.least code at b before
          | inr a ↦ a.0 f.code f.place first.invalid
        ];
  }

  pub first_of_after : (f : Fault) → IsAccepted Before → IsFirst After f → IsFirst (Then Before After) f
  first_of_after f accepted first = record {
    invalid = inr (accepted, first.invalid);
    least = λ code at is_invalid before.
        elim is_invalid [
          | inl b ↦ accepted code at b
          | inr a ↦ first.least code at a.1 before
        ];
  }

  pub accepted_then : IsAccepted Before → IsAccepted After → IsAccepted (Then Before After)
  accepted_then accepted after code at is_invalid =
      elim is_invalid [
        | inl b ↦ accepted code at b
        | inr a ↦ after code at a.1
      ]

-- two rules that say the same have one first fault
pub first_of_same : (Faults Same : Code → Place → Type 0) (f : Fault)
    → ((code : Code) (at : Place) → Faults code at → Same code at) → ((code : Code) (at : Place) → Same code at → Faults code at) → IsFirst Faults f → IsFirst Same f
first_of_same Faults Same f to from first = record {
  invalid = to f.code f.place first.invalid;
  least = λ code at is_invalid before. first.least code at (from code at is_invalid) before;
}

-- in a part that has no tables, places are ordered by their bytes
pub byte_before : (part : ℕ) (code : Code) (at here : ℕ) → ComesBefore (numbers code (at_byte part at)) (part ∷ 0 ∷ 0 ∷ 0 ∷ here ∷ []) → at < here
byte_before part code at here h = grind arith

-- ---- the rows of tables: here is a prefix of a cell's numbers

module _ (Faults : Code → Place → Type 0) (part table row column : ℕ) where
  -- before byte 0 of a cell stands nothing of the cell
  pub first_byte : IsJudgedTo Faults (part ∷ table ∷ row ∷ column ∷ []) → IsJudgedTo Faults (part ∷ table ∷ row ∷ column ∷ 0 ∷ [])
  first_byte judged = λ code at invalid before. judged code at invalid (grind arith)

  -- a column in which nothing is at fault is passed
  pub next_column : IsJudgedTo Faults (part ∷ table ∷ row ∷ column ∷ [])
      → ((code : Code) (at : Place) → Faults code at → at.part ≡ part → at.table ≡ table → at.row ≡ row → at.column ≡ column → ⊥)
      → IsJudgedTo Faults (part ∷ table ∷ row ∷ suc column ∷ [])
  next_column judged none = λ code at invalid before.
      elim (before_next code at before) [
        | inl earlier ↦ judged code at invalid earlier
        | inr here ↦ none code at invalid here.0 here.1 here.2 here.3
      ]
    where
      before_next : (code : Code) (at : Place) → ComesBefore (numbers code at) (part ∷ table ∷ row ∷ suc column ∷ [])
          → ComesBefore (numbers code at) (part ∷ table ∷ row ∷ column ∷ []) ⊎ ((at.part ≡ part) × (at.table ≡ table) × (at.row ≡ row) × (at.column ≡ column))
      before_next code at h = grind arith

  -- the rest of a row in which nothing is at fault is passed
  pub next_row : IsJudgedTo Faults (part ∷ table ∷ row ∷ column ∷ [])
      → ((code : Code) (at : Place) → Faults code at → at.part ≡ part → at.table ≡ table → at.row ≡ row → column ≤ at.column → ⊥)
      → IsJudgedTo Faults (part ∷ table ∷ suc row ∷ [])
  next_row judged none = λ code at invalid before.
      elim (before_next code at before) [
        | inl earlier ↦ judged code at invalid earlier
        | inr here ↦ none code at invalid here.0 here.1 here.2 here.3
      ]
    where
      before_next : (code : Code) (at : Place) → ComesBefore (numbers code at) (part ∷ table ∷ suc row ∷ [])
          → ComesBefore (numbers code at) (part ∷ table ∷ row ∷ column ∷ []) ⊎ ((at.part ≡ part) × (at.table ≡ table) × (at.row ≡ row) × (column ≤ at.column))
      before_next code at h = grind arith

  -- the rest of a table in which nothing is at fault is passed, and so are tables that have no rules
  pub next_table : (next : ℕ) → IsJudgedTo Faults (part ∷ table ∷ row ∷ [])
      → ((code : Code) (at : Place) → Faults code at → at.part ≡ part → (((at.table ≡ table) × (row ≤ at.row)) ⊎ ((table < at.table) × (at.table < next))) → ⊥)
      → IsJudgedTo Faults (part ∷ next ∷ [])
  next_table next judged none = λ code at invalid before.
      elim (before_next code at before) [
        | inl earlier ↦ judged code at invalid earlier
        | inr here ↦ none code at invalid here.0 here.1
      ]
    where
      before_next : (code : Code) (at : Place) → ComesBefore (numbers code at) (part ∷ next ∷ [])
          → ComesBefore (numbers code at) (part ∷ table ∷ row ∷ [])
          ⊎ ((at.part ≡ part) × ((((at.table ≡ table) × (row ≤ at.row)) ⊎ ((table < at.table) × (at.table < next)))))
      before_next code at h = grind arith

-- ---- two families of rules

-- coming before goes on from list to list
pub comes_before_trans : (xs ys zs : List ℕ) → ComesBefore xs ys → ComesBefore ys zs → ComesBefore xs zs
comes_before_trans xs ys [] a b = b
comes_before_trans xs [] (z ∷ zs) a b = absurd a
comes_before_trans [] (y ∷ ys) (z ∷ zs) a b = tt
comes_before_trans (x ∷ xs) (y ∷ ys) (z ∷ zs) (inl a) (inl b) = inl (omega (arith, a, b))
comes_before_trans (x ∷ xs) (y ∷ ys) (z ∷ zs) (inl a) (inr b) = inl (omega (arith, a, b.0))
comes_before_trans (x ∷ xs) (y ∷ ys) (z ∷ zs) (inr a) (inl b) = inl (omega (arith, a.0, b))
comes_before_trans (x ∷ xs) (y ∷ ys) (z ∷ zs) (inr a) (inr b) = inr (a.0 ∙ b.0, comes_before_trans xs ys zs a.1 b.1)

module _ (Faults One Other : Code → Place → Type 0) (families : (code : Code) (at : Place) → Faults code at → One code at ⊎ Other code at) where
  -- of two families of rules, each with its first fault, the earlier fault is the first of all
  pub first_of_two : (f g : Fault) → Faults f.code f.place → IsFirst One f → IsFirst Other g
      → ComesBefore (numbers f.code f.place) (numbers g.code g.place) → IsFirst Faults f
  first_of_two f g invalid one other before = record {
    invalid = invalid;
    least = λ code at is_invalid early. elim (families code at is_invalid) [
      | inl of_one ↦ one.least code at of_one early
      | inr of_other ↦ other.least code at of_other (comes_before_trans (numbers code at) (numbers f.code f.place) (numbers g.code g.place) early before)
    ];
  }

  -- where the other family has no fault before it, the first fault of the one is the first of all
  pub first_of_one : (f : Fault) → Faults f.code f.place → IsFirst One f → IsJudgedTo Other (numbers f.code f.place) → IsFirst Faults f
  first_of_one f invalid one none = record {
    invalid = invalid;
    least = λ code at is_invalid early. elim (families code at is_invalid) [
      | inl of_one ↦ one.least code at of_one early
      | inr of_other ↦ none code at of_other early
    ];
  }

-- ---- a file has one first fault

-- codes have different numbers
same_code : (c d : Code) → number_of c ≡ number_of d → c ≡ d
same_code c d e = grind arith

-- of two faults neither of which comes before the other, the numbers are the same
same_numbers : (c d : Code) (p q : Place) → (ComesBefore (numbers c p) (numbers d q) → ⊥) → (ComesBefore (numbers d q) (numbers c p) → ⊥)
    → (p.part ≡ q.part) × (p.table ≡ q.table) × (p.row ≡ q.row) × (p.column ≡ q.column) × (p.byte ≡ q.byte) × (number_of c ≡ number_of d)
same_numbers c d p q f g = grind arith

-- places with the same numbers are one
same_place : (p q : Place) → p.part ≡ q.part → p.table ≡ q.table → p.row ≡ q.row → p.column ≡ q.column → p.byte ≡ q.byte → p ≡ q
same_place p q a b c d e = grind arith

-- two first faults are one
pub one_first : (Faults : Code → Place → Type 0) (f g : Fault) → IsFirst Faults f → IsFirst Faults g → f ≡ g
one_first Faults f g a b =
    let same = same_numbers f.code g.code f.place g.place (b.least f.code f.place a.invalid) (a.least g.code g.place b.invalid) in
    let code : f.code ≡ g.code = same_code f.code g.code same.5 in
    let place : f.place ≡ g.place = same_place f.place g.place same.0 same.1 same.2 same.3 same.4 in
    ap (λ c. record { code = c; place = f.place }) code ∙ ap (λ p. record { code = g.code; place = p }) place
