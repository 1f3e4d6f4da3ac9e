use Rattle.std.{proofs.Common.{◌≡◌, ◌≤◌, ℕ, [], length, get_or}, specs.List.{sum_by}}
use Rattle.ppdb_values.specs.declared.scope.ScopeValue.{ScopeValue}
use Rattle.ppdb_merge_moved.specs.OnRows.{annotated_scopes_by, in_lists}
use Rattle.ppdb_merge_moved.proofs.annotating.annotated_scopes.Given as goal

abbrev pub invariant-loop-scope : goal.invariant-loop-scope
invariant-loop-scope l = record {
  row : l.row ≡ length l.yielded;
  variable : l.variable ≡ sum_by (λ (s : ScopeValue). length s.variables) l.yielded;
  constant : l.constant ≡ sum_by (λ (s : ScopeValue). length s.constants) l.yielded;
  annotated : l.annotated ≡ annotated_scopes_by (in_lists l.fn.on_scopes) (in_lists l.fn.on_variables) (in_lists l.fn.on_constants) 1 1 1 l.yielded;
  scopes_left : (k : ℕ) → l.row ≤ k → get_or l.on_scopes k [] ≡ get_or l.fn.on_scopes k [];
  variables_left : (k : ℕ) → l.variable ≤ k → get_or l.on_variables k [] ≡ get_or l.fn.on_variables k [];
  constants_left : (k : ℕ) → l.constant ≤ k → get_or l.on_constants k [] ≡ get_or l.fn.on_constants k [];
}
