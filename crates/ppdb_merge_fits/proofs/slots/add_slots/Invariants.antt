use Rattle.std.{proofs.Common.{◌≡◌, ◌-◌, ◌≤◌, ◌++◌, map}, specs.Prelude.{slice_range}}
use Rattle.ppdb_values.specs.declared.scope.VariableValue.{VariableValue}
use Rattle.ppdb_verify.specs.Views.{raw_file}
use Rattle.ppdb_values_reading.specs.Lent.{variables_of}
use Rattle.ppdb_merge_fits.proofs.slots.add_slots.Given as goal

abbrev pub invariant-rows : goal.invariant-rows
invariant-rows g l = record {
  from : l.scope.variables.first ≤ l.row;
  to : l.row ≤ l.scope.variables.end;
  made : l.slots ≡ l.fn.slots ++ map (λ (v : VariableValue). record { method = l.scope.method; slot = v.slot })
      (slice_range (variables_of (raw_file l.file).tables) (l.scope.variables.first - 1) (l.row - 1));
}

abbrev pub decreases-rows : goal.decreases-rows
decreases-rows g l = l.scope.variables.end - l.row
