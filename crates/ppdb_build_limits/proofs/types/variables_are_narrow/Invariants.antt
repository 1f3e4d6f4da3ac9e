use Rattle.std.proofs.Common.{All, take}
use Rattle.ppdb_values.specs.Types.{IsNarrow}
use Rattle.ppdb_build_limits.proofs.types.variables_are_narrow.Given as goal

abbrev pub invariant-loop-variable : goal.invariant-loop-variable
invariant-loop-variable l = All IsNarrow (take l.variable-index l.variables)
