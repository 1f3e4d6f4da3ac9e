use Rattle.std.proofs.Common.{map, take}
use Rattle.ppdb_maps.specs.declared.line.Line.TheVariants.{Kept}
use Rattle.map_compose.specs.Says.{PutsLines}
use Rattle.map_compose.proofs.runs.put_plain.Given as goal

abbrev pub invariant-runs : goal.invariant-runs
invariant-runs l = PutsLines l.fn.text l.text (map Kept (take l.run-index l.runs))
