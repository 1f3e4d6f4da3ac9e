-- Runs of rows, and where they stand.
use Rattle.std.{proofs.Common.{◌≡◌, ℕ, suc, ◌+◌, ◌-◌, ◌≤◌, List, [], ◌∷◌, length, map, refl, arith, slice_range}, specs.Prelude.{Option, Some, None, IsSome, IfSome}}
use Rattle.std.{specs.Prelude.{unwrap_or}, specs.Option.{option_map}, proofs.lemmas.List.{length-map}}
use Rattle.ppdb_tables.{specs.declared.rows.ScopeRow.{ScopeRow}, specs.RawTables.{row_at}, proofs.NumberedRows.{row_within}}
use Rattle.ppdb_values.{specs.Owners.{list_end}, specs.Rules.{KeepsLists}, proofs.Lists.{rises}}
use Rattle.ppdb_queries.{specs.declared.run.Run.{Run}, specs.Runs.{IsRunOf}, proofs.Filters.{forward}}

-- a run of rows with a key
pub bounds : {X : Type 0} (wanted : Option ℕ) (key : X → ℕ) (rows : List X) (run : Run) → IsSome wanted → IfSome wanted (λ w. IsRunOf key w rows run)
    → (1 ≤ run.first) × (run.first ≤ run.end) × (run.end ≤ length rows + 1)
bounds None key rows run h is = cc
bounds (Some w) key rows run h is =
    let to = is.end.to in
    let len = length-map rows key in
    (is.first.from, forward (map key rows) w run.first run.end is.first is.end, omega (arith, to, len))

-- nothing is left at the end
pub run_done : {Y : Type 0} (ys : List Y) (row end : ℕ) → end ≤ row → slice_range ys (row - 1) (end - 1) ≡ []
run_done ys row end h = let e : (end - 1) - (row - 1) ≡ 0 = omega arith in rw e refl

-- ---- lists in order

first_of : (rows : List ScopeRow) → 1 ≤ length rows → (x : ScopeRow) × (row_at rows 1 ≡ Some x)
first_of [] h = absurd (omega arith)
first_of (x ∷ xs) h = (x, refl)

end_by : (list : ScopeRow → ℕ) (scopes : List ScopeRow) (items n : ℕ) (scope : ScopeRow) (next : Option ScopeRow) → KeepsLists list scopes items
    → row_at scopes n ≡ Some scope → row_at scopes (suc n) ≡ next
    → (list scope ≤ unwrap_or (option_map list next) (items + 1)) × (unwrap_or (option_map list next) (items + 1) ≤ items + 1)
end_by list scopes items n scope (Some later) keeps there e =
    (rises list scopes items n (suc n) scope later keeps there e (omega arith), keeps.within (suc n) later e)
end_by list scopes items n scope None keeps there e = (keeps.within n scope there, omega arith)

-- the list of a scope begins at an item or right after the last, and ends no earlier and within the items
pub list_bounds : (list : ScopeRow → ℕ) (scopes : List ScopeRow) (items n : ℕ) (scope : ScopeRow) → KeepsLists list scopes items → row_at scopes n ≡ Some scope
    → (1 ≤ list scope) × (list scope ≤ list_end list scopes n items) × (list_end list scopes n items ≤ items + 1)
list_bounds list scopes items n scope keeps there =
    let within = row_within scopes n scope there in
    let one = first_of scopes (omega (arith, within)) in
    let first : list one.0 ≡ 1 = keeps.first one.0 one.1 in
    let up = rises list scopes items 1 n one.0 scope keeps one.1 there within.0 in
    let to = end_by list scopes items n scope (row_at scopes (suc n)) keeps there refl in
    (omega (arith, first, up), to.0, to.1)
