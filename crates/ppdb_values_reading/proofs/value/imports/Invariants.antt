use Rattle.std.proofs.Common.{◌≡◌, ◌+◌, ◌-◌, ◌≤◌, take}
use Rattle.ppdb_values.specs.Value.{value_of}
use Rattle.ppdb_verify.specs.Views.{raw_file}
use Rattle.ppdb_values_reading.proofs.value.imports.Given as goal

abbrev pub invariant-rows : goal.invariant-rows
invariant-rows g l = record {
  from : 1 ≤ l.row;
  to : l.row ≤ l.count + 1;
  made : l.imports ≡ take (l.row - 1) (value_of (raw_file l.file)).imports;
  cost : l.steps + 1 ≡ l.fn.steps + l.row;
}

abbrev pub decreases-rows : goal.decreases-rows
decreases-rows g l = l.count + 1 - l.row
