use Rattle.std.proofs.Common.{◌≤◌, ◌-◌, length}
use Rattle.ppdb_run.proofs.merged.free_cells.Given as goal

abbrev pub invariant-cells : goal.invariant-cells
invariant-cells l = length l.cells ≤ 256

abbrev pub decreases-cells : goal.decreases-cells
decreases-cells l = 256 - length l.cells
