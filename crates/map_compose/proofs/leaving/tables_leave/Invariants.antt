use Rattle.std.{proofs.Common.{◌≡◌, false}, specs.List.{list_any, range_with_len}}
use Rattle.map_compose.specs.Leaving.{rows_leave}
use Rattle.map_compose.proofs.leaving.tables_leave.Given as goal

abbrev pub invariant-tables : goal.invariant-tables
invariant-tables l = list_any (rows_leave l.first l.second) (range_with_len 0 l.table) ≡ false
