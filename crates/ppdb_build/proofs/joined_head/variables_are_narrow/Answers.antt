use Rattle.std.proofs.Common.{arith}
use Rattle.ppdb_values.specs.Types.{IsNarrowRow}
use Rattle.ppdb_build_limits.proofs.Firsts.{all_more, all_whole}
use Rattle.ppdb_build.proofs.joined_head.variables_are_narrow.Goals as goal

pub loop-variable-preserved : goal.loop-variable-preserved
loop-variable-preserved c =
    all_more IsNarrowRow c.args.variables.now c.loop-variable.variable-index _ (omega arith) c.loop-variable.invariant c.variable_is_narrow.ensures

pub returns : goal.returns
returns c = all_whole IsNarrowRow c.args.variables.now c.loop-variable.variable-index (omega arith) c.loop-variable.invariant
