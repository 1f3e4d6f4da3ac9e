use Rattle.std.proofs.Common.{◌≡◌, ◌++◌, take, flat_map}
use Rattle.row_layout.specs.Rows.{row_bytes}
use Rattle.ppdb_build_layout.proofs.cells.put_rows.Given as goal

abbrev pub invariant-loop-row : goal.invariant-loop-row
invariant-loop-row g l = l.into ≡ l.initial.into ++ flat_map (λ row. row_bytes l.layout (g.R.Cells.cells_of row)) (take l.row-index l.rows)
