use Rattle.std.{proofs.Common.{◌≡◌, ◌+◌, ◌-◌, ◌≤◌}, specs.Prelude.{slice_range}}
use Rattle.ppdb_verify.specs.Views.{raw_file}
use Rattle.ppdb_values_reading.specs.Lent.{constants_of}
use Rattle.ppdb_values_reading.proofs.scopes.constants_in.Given as goal

abbrev pub invariant-rows : goal.invariant-rows
invariant-rows g l = record {
  from : l.list.first ≤ l.row;
  to : l.row ≤ l.list.end;
  made : l.constants ≡ slice_range (constants_of (raw_file l.file).tables) (l.list.first - 1) (l.row - 1);
  cost : l.steps + l.list.first ≡ l.fn.steps + l.row;
}

abbrev pub decreases-rows : goal.decreases-rows
decreases-rows g l = l.list.end - l.row
