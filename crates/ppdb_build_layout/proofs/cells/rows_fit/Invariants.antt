use Rattle.std.proofs.Common.{All, take}
use Rattle.row_layout.specs.Rows.{Fit}
use Rattle.ppdb_build_layout.proofs.cells.rows_fit.Given as goal

abbrev pub invariant-loop-row : goal.invariant-loop-row
invariant-loop-row g l = All (λ row. Fit l.layout (g.R.Cells.cells_of row)) (take l.row-index l.rows)
