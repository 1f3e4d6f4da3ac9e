-- The items of the scopes, one list after the other.
use Rattle.std.{proofs.Common.{◌≡◌, ℕ, zero, suc, ◌+◌, ◌≤◌, ◌<◌, List, [], ◌∷◌, length, refl, arith}, specs.Prelude.{Option, Some, None, unwrap_or}}
use Rattle.std.{specs.Option.{option_map}, proofs.lemmas.List.{length-map}, proofs.lemmas.Option.{slice_get_within}}
use Rattle.ppdb_tables.{specs.declared.rows.ScopeRow.{ScopeRow}, specs.RawTables.{row_at}, proofs.NumberedRows.{row_there}}
use Rattle.ppdb_values.{specs.Value.{owner_of}, specs.Rules.{KeepsLists, KeepsRules}, specs.Owners.{list_end}, specs.RawFile.{RawFile}, proofs.Lists.{owner_in_list}}
use Rattle.ppdb_values.proofs.Lists.{index_map}
use Rattle.ppdb_show.specs.{declared.show.owned.Owned.{Owned}, declared.show.owned.Owned.TheVariants.{Variables, Constants}, ShowWalk.{list_by, items_of}}
use Rattle.ppdb_show.proofs.Numbered.{row_past}

-- where the list of a row begins, right after the last item where there is no such row
abbrev pub begin_of : (ScopeRow → ℕ) → List ScopeRow → ℕ → ℕ → ℕ
begin_of list scopes row items = unwrap_or (option_map list (row_at scopes row)) (items + 1)

pub keeps_lists : (raw : RawFile) (owned : Owned) → KeepsRules raw → KeepsLists (list_by owned) raw.tables.scopes (items_of raw.tables owned)
keeps_lists raw Variables keeps = keeps.variables.lists
keeps_lists raw Constants keeps = keeps.constants.lists

pub begins_first : (list : ScopeRow → ℕ) (scopes : List ScopeRow) (items : ℕ) → KeepsLists list scopes items → begin_of list scopes 1 items ≡ 1
begins_first list [] items keeps = let none = keeps.none refl in omega (arith, none)
begins_first list (x ∷ xs) items keeps = keeps.first x refl

pub begins_last : (list : ScopeRow → ℕ) (scopes : List ScopeRow) (items row : ℕ) → length scopes < row → begin_of list scopes row items ≡ items + 1
begins_last list scopes items row h = rw (row_past scopes row h) refl

rises : (list : ScopeRow → ℕ) (scopes : List ScopeRow) (items row : ℕ) (x y : ScopeRow) → KeepsLists list scopes items → row_at scopes row ≡ Some x
    → row_at scopes (suc row) ≡ Some y → list x ≤ list y
rises list scopes items zero x y keeps hx hy = cc
rises list scopes items (suc i) x y keeps hx hy =
    let inside : suc i < length scopes = slice_get_within scopes (suc i) y hy in
    let up = keeps.sorted i (suc i) (omega arith) (rw (length-map scopes list) inside) in
    rw (index_map list scopes i x hx, index_map list scopes (suc i) y hy) at up

forward_to : (list : ScopeRow → ℕ) (scopes : List ScopeRow) (items row : ℕ) (x : ScopeRow) (o : Option ScopeRow) → KeepsLists list scopes items
    → row_at scopes row ≡ Some x
    → row_at scopes (suc row) ≡ o → list x ≤ unwrap_or (option_map list o) (items + 1)
forward_to list scopes items row x None keeps there e = keeps.within row x there
forward_to list scopes items row x (Some y) keeps there e = rises list scopes items row x y keeps there e

within_to : (list : ScopeRow → ℕ) (scopes : List ScopeRow) (items row : ℕ) (o : Option ScopeRow) → KeepsLists list scopes items → row_at scopes row ≡ o
    → unwrap_or (option_map list o) (items + 1) ≤ items + 1
within_to list scopes items row None keeps e = omega arith
within_to list scopes items row (Some x) keeps e = keeps.within row x e

-- a list ends where it begins or later, and not past the last item
pub ends_after : (list : ScopeRow → ℕ) (scopes : List ScopeRow) (items row : ℕ) → KeepsLists list scopes items → 1 ≤ row → row ≤ length scopes
    → begin_of list scopes row items ≤ list_end list scopes row items
ends_after list scopes items row keeps low high =
    let there = row_there scopes row low high in
    rw (there.1) (forward_to list scopes items row there.0 (row_at scopes (suc row)) keeps there.1 refl)

pub ends_within : (list : ScopeRow → ℕ) (scopes : List ScopeRow) (items row : ℕ) → KeepsLists list scopes items → list_end list scopes row items ≤ items + 1
ends_within list scopes items row keeps = within_to list scopes items (suc row) (row_at scopes (suc row)) keeps refl

pub ends_where_next_begins : (list : ScopeRow → ℕ) (scopes : List ScopeRow) (items row : ℕ)
    → list_end list scopes row items ≡ begin_of list scopes (row + 1) items
ends_where_next_begins list scopes items row = let e : row + 1 ≡ suc row = omega arith in rw e refl

-- the scope owns the items between
pub owns_between : (list : ScopeRow → ℕ) (scopes : List ScopeRow) (items row item : ℕ) → KeepsLists list scopes items → 1 ≤ row → row ≤ length scopes
    → begin_of list scopes row items ≤ item → item < list_end list scopes row items → owner_of list scopes item ≡ Some row
owns_between list scopes items row item keeps low high from to =
    let there = row_there scopes row low high in
    let last = ends_within list scopes items row keeps in
    let begun : list there.0 ≤ item = rw (there.1) at from in
    (owner_in_list list scopes items row item there.0 keeps there.1 (omega (arith, to, last))).1 (begun, to)
