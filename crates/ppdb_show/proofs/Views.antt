-- The views of scopes, and the lists of a scope.
use Rattle.std.{proofs.Common.{◌≡◌, ℕ, suc, ◌+◌, ◌≤◌, List, [], ◌∷◌, length, map, refl, sym, ap, ◌∙◌, arith, cond, Bool, true, false}, specs.Prelude.{Some}}
use Rattle.std.specs.{Prelude.{slice_get}, List.{filter, enumerate_from}}
use Rattle.ppdb_tables.specs.{declared.rows.ScopeRow.{ScopeRow}, RawTables.{RawTables, count, row_at}}
use Rattle.ppdb_values.{specs.Rules.{KeepsLists, KeepsScopes}, proofs.Lists.{owned_is_list}}
use Rattle.ppdb_queries.specs.{declared.scopes.ScopeView.{ScopeView}, Runs.{rows_in}, Scopes.{scope_view, scopes_at}}
use Rattle.ppdb_show.{specs.Query.{variables_of, constants_of}, specs.QueryWalk.{IsViewOf}, proofs.Given.{Each}, proofs.Runs.{list_bounds}}

views_from : (raw : RawTables) (p : ℕ × ScopeRow → Bool) (n : ℕ) (rows : List ScopeRow)
    → ((i : ℕ) (x : ScopeRow) → slice_get rows i ≡ Some x → row_at raw.scopes (n + i) ≡ Some x)
    → Each (IsViewOf raw) (map (scope_view raw) (filter p (enumerate_from n rows)))
views_from raw p n [] at = tt
views_from raw p n (x ∷ xs) at =
    let more = views_from raw p (n + 1) xs (λ i y e. let k : n + 1 + i ≡ n + suc i = omega arith in rw k (at (suc i) y e)) in
    let here : row_at raw.scopes n ≡ Some x = let k : n + 0 ≡ n = omega arith in rw k at (at 0 x refl) in
    elim (p (n, x)) as (λ b. Each (IsViewOf raw)
    (map (scope_view raw) (cond b ((n, x) ∷ filter p (enumerate_from (n + 1) xs)) (filter p (enumerate_from (n + 1) xs))))) [
      | true ↦ (record { scope = x; there = here; is_view = refl }, more)
      | false ↦ more
    ]

-- the scopes that hold an offset are there
pub views_there : (raw : RawTables) (m x : ℕ) → Each (IsViewOf raw) (scopes_at raw m x)
views_there raw m x = views_from raw _ 1 raw.scopes (λ i y e. let k : 1 + i ≡ suc i = omega arith in rw k e)

-- the rows of the lists of a scope
pub variables_bounds : (raw : RawTables) (view : ScopeView) → IsViewOf raw view → KeepsLists (λ scope. scope.variables) raw.scopes (length raw.variables)
    → (1 ≤ view.variables.first) × (view.variables.first ≤ view.variables.end) × (view.variables.end ≤ length raw.variables + 1)
variables_bounds raw view is keeps =
    let b = list_bounds (λ scope. scope.variables) raw.scopes (length raw.variables) view.row is.scope keeps is.there in
    let first = ap (λ (v : ScopeView). v.variables.first) is.is_view in
    let end = ap (λ (v : ScopeView). v.variables.end) is.is_view in
    (omega (arith, b, first), omega (arith, b, first, end), omega (arith, b, end))

pub constants_bounds : (raw : RawTables) (view : ScopeView) → IsViewOf raw view → KeepsLists (λ scope. scope.constants) raw.scopes (length raw.constants)
    → (1 ≤ view.constants.first) × (view.constants.first ≤ view.constants.end) × (view.constants.end ≤ length raw.constants + 1)
constants_bounds raw view is keeps =
    let b = list_bounds (λ scope. scope.constants) raw.scopes (length raw.constants) view.row is.scope keeps is.there in
    let first = ap (λ (v : ScopeView). v.constants.first) is.is_view in
    let end = ap (λ (v : ScopeView). v.constants.end) is.is_view in
    (omega (arith, b, first), omega (arith, b, first, end), omega (arith, b, end))

pub variables_owned : (raw : RawTables) (view : ScopeView) → IsViewOf raw view → KeepsLists (λ scope. scope.variables) raw.scopes (length raw.variables)
    → rows_in view.variables raw.variables ≡ variables_of raw view
variables_owned raw view is keeps =
    ap (λ (v : ScopeView). rows_in v.variables raw.variables) is.is_view
    ∙ sym (owned_is_list (λ scope. scope.variables) raw.scopes view.row is.scope raw.variables keeps is.there)

pub constants_owned : (raw : RawTables) (view : ScopeView) → IsViewOf raw view → KeepsLists (λ scope. scope.constants) raw.scopes (length raw.constants)
    → rows_in view.constants raw.constants ≡ constants_of raw view
constants_owned raw view is keeps =
    ap (λ (v : ScopeView). rows_in v.constants raw.constants) is.is_view
    ∙ sym (owned_is_list (λ scope. scope.constants) raw.scopes view.row is.scope raw.constants keeps is.there)

pub import_there : (raw : RawTables) (view : ScopeView) → IsViewOf raw view → KeepsScopes raw → view.import ≤ count raw 0x35
import_there raw view is keeps =
    let there = (keeps.each view.row is.scope is.there).import in
    let import = ap (λ (v : ScopeView). v.import) is.is_view in
    omega (arith, there, import)
