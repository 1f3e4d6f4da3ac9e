use Rattle.std.{proofs.Common.{◌≡◌, ◌+◌, ◌-◌, ◌≤◌, take}, specs.List.{filter_map}}
use Rattle.ppdb_tables.specs.RawTables.{numbered}
use Rattle.ppdb_values.specs.Documents.{method_of}
use Rattle.ppdb_verify.specs.Views.{raw_file}
use Rattle.ppdb_values_reading.proofs.value.methods.Given as goal

abbrev pub invariant-rows : goal.invariant-rows
invariant-rows g l = record {
  from : 1 ≤ l.row;
  to : l.row ≤ l.count + 1;
  made : l.methods ≡ filter_map (method_of (raw_file l.file).tables) (take (l.row - 1) (numbered (raw_file l.file).tables.methods));
  cost : l.steps + 1 ≡ l.fn.steps + l.row;
}

abbrev pub decreases-rows : goal.decreases-rows
decreases-rows g l = l.count + 1 - l.row
