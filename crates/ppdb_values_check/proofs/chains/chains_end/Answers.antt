use Rattle.std.proofs.Common.{arith, refl}
use Rattle.ppdb_values.specs.declared.import.ImportScopeValue.{ImportScopeValue}
use Rattle.ppdb_tables.proofs.Walks.{all_end}
use Rattle.ppdb_values_check.proofs.chains.chains_end.Goals as goal

pub returns : goal.returns
returns c = (
  (λ _. all_end (λ (scope : ImportScopeValue). scope.parent) c.args.imports.now (λ k lt. c.loop-i.invariant.ended k (omega (arith, lt)))),
  (λ _. refl),
)
