use Rattle.std.proofs.Common.{subst, arith}
use Rattle.ppdb_values.specs.Types.{IsNarrow}
use Rattle.ppdb_build_limits.proofs.Firsts.{all_more, all_whole}
use Rattle.ppdb_build_limits.proofs.types.variables_are_narrow.Goals as goal

pub loop-variable-preserved : goal.loop-variable-preserved
loop-variable-preserved c =
    all_more IsNarrow c.args.variables.now c.loop-variable.variable-index c.variable-item.result (omega arith) c.loop-variable.invariant
    (subst IsNarrow c.variable-item.is c.variable_is_narrow.ensures)

pub returns : goal.returns
returns c = all_whole IsNarrow c.args.variables.now c.loop-variable.variable-index (omega arith) c.loop-variable.invariant
