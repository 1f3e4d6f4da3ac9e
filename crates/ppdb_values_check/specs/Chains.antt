-- Chains of import scopes (Portable PDB v1.0, "ImportScope Table": Parent).
use Rattle.std.specs.Prelude.{ℕ, List}
use Rattle.ppdb_tables.specs.Chains.{parent_at}
use Rattle.ppdb_values.specs.declared.import.ImportScopeValue.{ImportScopeValue}

-- the parent of an import scope, 0 where there is none
abbrev pub parent_of : List ImportScopeValue → ℕ → ℕ
parent_of imports = parent_at (λ scope. scope.parent) imports
