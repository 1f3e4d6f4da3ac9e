use Rattle.std.proofs.Common.{◌≡◌, take, fold}
use Rattle.ppdb_build_draft.specs.Draft.{with_variable}
use Rattle.ppdb_build.proofs.parts.add_variables.Given as goal

abbrev pub invariant-loop-variable : goal.invariant-loop-variable
invariant-loop-variable l = l.draft ≡ fold with_variable l.initial.draft (take l.variable-index l.variables)
