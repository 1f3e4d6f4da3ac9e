use Rattle.std.proofs.Common.{arith}
use Rattle.ppdb_maps.specs.declared.line.Line.TheVariants.{Kept}
use Rattle.map_compose.proofs.Putting.{says_none, map_next, map_done}
use Rattle.map_compose.proofs.runs.put_plain.Goals as goal

pub runs-init : goal.runs-init
runs-init c = says_none c.args.text.now

pub runs-preserved : goal.runs-preserved
runs-preserved c = map_next (λ r. Kept r) _ _ _ c.args.runs.now c.runs.run-index _ (omega arith) c.runs.invariant c.in_ok-put_run.ensures

pub returns : goal.returns
returns c = map_done (λ r. Kept r) _ _ c.args.runs.now c.runs.run-index (omega arith) c.runs.invariant
