use Rattle.std.{proofs.Common.{take, length}, specs.List.{sum_by}}
use Rattle.ppdb_values_check.specs.Counts.{IsCapped}
use Rattle.ppdb_values_check.proofs.counts.variables_of.Given as goal

abbrev pub invariant-loop-scope : goal.invariant-loop-scope
invariant-loop-scope l = IsCapped (sum_by (λ scope. length scope.variables) (take l.scope-index l.scopes)) l.total
