use Rattle.std.proofs.Common.{All, take}
use Rattle.ppdb_values.specs.Types.{IsNarrow}
use Rattle.ppdb_build_limits.proofs.types.scopes_are_narrow.Given as goal

abbrev pub invariant-loop-scope : goal.invariant-loop-scope
invariant-loop-scope l = All (λ scope. All IsNarrow scope.variables) (take l.scope-index l.scopes)
