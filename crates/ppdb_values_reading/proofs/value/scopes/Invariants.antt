use Rattle.std.{proofs.Common.{◌≡◌, ◌+◌, ◌-◌, ◌++◌, length, map, All}, specs.List.{sum_by}}
use Rattle.ppdb_values.specs.Value.{value_of}
use Rattle.ppdb_verify.specs.Views.{raw_file}
use Rattle.ppdb_values_reading.specs.{Totals.{scope_total}, Scopes.{scope_with, HasLists, rows_of}}
use Rattle.ppdb_values_reading.proofs.value.scopes.Given as goal

abbrev pub invariant-scopes : goal.invariant-scopes
invariant-scopes g l =
    let raw = raw_file l.file in
    record {
      within : All (HasLists raw.tables) l.cursor;
      made : l.scopes ++ map (scope_with raw.tables) l.cursor ≡ (value_of raw).scopes;
      cost : l.steps + (length l.cursor - 1) + sum_by rows_of l.cursor ≡ l.fn.steps + scope_total raw.tables;
    }

abbrev pub decreases-scopes : goal.decreases-scopes
decreases-scopes g l = length l.cursor
