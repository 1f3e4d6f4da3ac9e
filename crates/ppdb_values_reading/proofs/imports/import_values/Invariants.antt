use Rattle.std.{proofs.Common.{◌≡◌, ◌++◌, map, length}, specs.Prelude.{None}}
use Rattle.ppdb_values.specs.Imports.{import_value}
use Rattle.ppdb_values_reading.proofs.imports.import_values.Given as goal

abbrev pub invariant-imports : goal.invariant-imports
invariant-imports l = record {
  whole : l.imports.fault ≡ None;
  read : l.values ++ map import_value l.imports.items ≡ map import_value l.fn.imports.items;
}

abbrev pub decreases-imports : goal.decreases-imports
decreases-imports l = length l.imports.items
