-- The lists of the scopes are in order, and items of one scope differ where none of them may be equal.
use Rattle.std.{proofs.Common.{◌≡◌, ◌≢◌, ℕ, suc, ◌+◌, ◌-◌, ◌<◌, ◌≤◌, List, [], ◌∷◌, length, refl, sym, arith, inl, inr, true}, specs.Prelude.{Option, Some, None}}
use Rattle.std.{specs.Prelude.{nat_le}, specs.List.{enumerate_from, filter, last_or}, specs.Option.{option_map}, proofs.lemmas.Bool.{cases_eq, cases_lt}}
use Rattle.std.proofs.lemmas.Bool.Decides.{nat_tests}
use Rattle.ppdb_tables.specs.{declared.rows.ScopeRow.{ScopeRow}, RawTables.{row_at}}
use Rattle.ppdb_verify_rules.specs.Scopes.{IsListOut, ShareOwner}
use Rattle.ppdb_values.{specs.Rules.{DifferInScope, KeepsLists}, specs.Value.{owner_of}, proofs.Owners.{owner_is_last}}
use Rattle.ppdb_verify_accepted_laws.proofs.Orders.{row_within, sorted_next}

-- ---- lists in order

module _ (list : ScopeRow → ℕ) (scopes : List ScopeRow) (items : ℕ)
    (good : (row : ℕ) (scope : ScopeRow) → row_at scopes row ≡ Some scope → IsListOut list items scopes row scope → ⊥) where
  first_is : (scope : ScopeRow) → row_at scopes 1 ≡ Some scope → list scope ≡ 1
  first_is scope here = elim (cases_eq (list scope) 1) [
    | inl one ↦ one
    | inr apart ↦ absurd (good 1 scope here (inr (inl (refl, apart))))
  ]

  next_up : (i : ℕ) (x y : ScopeRow) → row_at scopes (suc i) ≡ Some x → row_at scopes (suc (suc i)) ≡ Some y → list x ≤ list y
  next_up i x y hx hy = elim (cases_lt (list y) (list x)) [
    | inl falls ↦ let e : suc (suc i) - 1 ≡ suc i = omega arith in absurd (good (suc (suc i)) y hy (inr (inr (x, rw e hx, falls))))
    | inr up ↦ up
  ]

  list_within : (row : ℕ) (scope : ScopeRow) → row_at scopes row ≡ Some scope → list scope ≤ items + 1
  list_within row scope here = elim (cases_lt (items + 1) (list scope)) [
    | inl over ↦ absurd (good row scope here (inl (inr over)))
    | inr within ↦ within
  ]

  pub lists_kept : (scopes ≡ [] → items ≡ 0) → KeepsLists list scopes items
  lists_kept none = record { first = first_is; sorted = sorted_next list scopes next_up; within = list_within; none = none }

-- where no item is the first, there is none
pub none_alone : {X : Type 0} (items : List X) → ((first : X) → row_at items 1 ≡ Some first → ⊥) → length items ≡ 0
none_alone [] none = refl
none_alone (first ∷ others) none = absurd (none first refl)

-- ---- items of one scope

some_last : (x : ℕ × ScopeRow) (xs : List (ℕ × ScopeRow)) → option_map (λ scope. scope.0) (last_or (Some x) xs) ≡ None → ⊥
some_last x [] none = cc
some_last x (y ∷ ys) none = some_last y ys none

within : (a b : ℕ) → a ≤ b → nat_le a b ≡ true
within a b le = grind (arith, nat_tests)

-- an item at or after the first list has an owner
has_owner : (list : ScopeRow → ℕ) (scope : ScopeRow) (scopes : List ScopeRow) (item : ℕ) → list scope ≤ item → owner_of list (scope ∷ scopes) item ≡ None → ⊥
has_owner list scope scopes item le none =
    some_last (1, scope) (filter (λ (later : ℕ × ScopeRow). nat_le (list later.1) item) (enumerate_from 2 scopes)) (rw (within (list scope) item le) at none)

begun_owner : (list : ScopeRow → ℕ) (scopes : List ScopeRow) (items item : ℕ) → KeepsLists list scopes items → 1 ≤ item → item ≤ items
    → owner_of list scopes item ≡ None → ⊥
begun_owner list [] items item keeps from to none = let empty = keeps.none refl in omega (arith, from, to, empty)
begun_owner list (scope ∷ scopes) items item keeps from to none =
    let one = keeps.first scope refl in has_owner list scope scopes item (omega (arith, one, from)) none

shared : (list : ScopeRow → ℕ) (scopes : List ScopeRow) (a b : ℕ) (o : Option ℕ) → owner_of list scopes a ≡ o → owner_of list scopes b ≡ o → (o ≡ None → ⊥)
    → ShareOwner list scopes a b
shared list scopes a b None ha hb some = absurd (some refl)
shared list scopes a b (Some owner) ha hb some = (owner, owner_is_last list scopes owner a ha, owner_is_last list scopes owner b hb)

pub differ : {X K : Type 0} (key : X → K) (list : ScopeRow → ℕ) (scopes : List ScopeRow) (items : List X) → KeepsLists list scopes (length items)
    → ((a b : ℕ) (x y : X) → row_at items a ≡ Some x → row_at items b ≡ Some y → a < b → ShareOwner list scopes a b → key x ≢ key y)
    → DifferInScope key list scopes items
differ key list scopes items keeps apart a b x y hx hy less same =
    let here = row_within items a x hx in
    apart a b x y hx hy less
    (shared list scopes a b (owner_of list scopes a) refl (sym same) (begun_owner list scopes (length items) a keeps here.0 here.1))
