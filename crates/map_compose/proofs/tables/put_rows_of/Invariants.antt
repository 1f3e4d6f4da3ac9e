use Rattle.std.proofs.Common.{length}
use Rattle.map_compose.{specs.Parts.{olds_left}, specs.Says.{images_say, rows_say}, proofs.Putting.{PutSome}}
use Rattle.map_compose.proofs.tables.put_rows_of.Given as goal

abbrev pub invariant-rows : goal.invariant-rows
invariant-rows l =
    PutSome l.fn.text l.text (rows_say l.first l.second l.table) (images_say l.first l.second l.table (olds_left l.lines l.table l.passed))

abbrev pub decreases-rows : goal.decreases-rows
decreases-rows l = length (olds_left l.lines l.table l.passed)
