use Rattle.std.{proofs.Common.{◌≡◌, length}, specs.List.{list_any}}
use Rattle.map_compose.specs.{Composed.{composed_image}, Leaving.{leaves, rows_leave}, Parts.{olds_left}}
use Rattle.map_compose.proofs.leaving.rows_leave.Given as goal

abbrev pub invariant-rows : goal.invariant-rows
invariant-rows l =
    rows_leave l.first l.second l.table ≡ list_any (λ o. leaves l.table (composed_image l.first l.second l.table o)) (olds_left l.lines l.table l.passed)

abbrev pub decreases-rows : goal.decreases-rows
decreases-rows l = length (olds_left l.lines l.table l.passed)
