use Rattle.std.proofs.Common.{All, take}
use Rattle.ppdb_values.specs.Types.{IsNarrowRow}
use Rattle.ppdb_build.proofs.joined_head.variables_are_narrow.Given as goal

abbrev pub invariant-loop-variable : goal.invariant-loop-variable
invariant-loop-variable l = All IsNarrowRow (take l.variable-index l.variables)
