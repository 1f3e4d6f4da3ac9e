-- The parents of import scopes.
use Rattle.std.{proofs.Common.{◌≡◌, ℕ, zero, suc, ◌-◌, ◌<◌, ◌≤◌, List, length, get_or, sym, ap, arith}, specs.Prelude.{Some, slice_get}}
use Rattle.std.proofs.lemmas.Option.{slice_get-get_or}
use Rattle.ppdb_values.specs.declared.import.ImportScopeValue.{ImportScopeValue}
use Rattle.ppdb_values_check.specs.Chains.{parent_of}

-- the parent of a row that is there
pub parent_here : (imports : List ImportScopeValue) (place : ℕ) (scope : ImportScopeValue) → 0 < place → place ≤ length imports
    → scope ≡ get_or imports (place - 1) scope → parent_of imports place ≡ scope.parent
parent_here imports zero scope some within here = absurd (omega (arith, some))
parent_here imports (suc i) scope some within here =
    let e : suc i - 1 ≡ i = omega arith in
    let there : scope ≡ get_or imports i scope = rw e at here in
    let found : slice_get imports i ≡ Some (get_or imports i scope) = slice_get-get_or imports i scope (omega (arith, within)) in
    rw found (ap (λ s. s.parent) (sym there))
