use Rattle.std.proofs.Common.{◌-◌, ◌+◌, ◌<◌, ◌≤◌, ℕ, length, slice_index, map}
use Rattle.ppdb_tables.specs.RawOf.{raw_of}
use Rattle.ppdb_verify.specs.Views.{tables_of}
use Rattle.ppdb_queries.{specs.Machines.{cell_of}, proofs.Powers.{Halved}}
use Rattle.ppdb_queries.proofs.machines.machine_with.Given as goal

abbrev pub invariant-halves : goal.invariant-halves
invariant-halves g l =
    let keys = map (cell_of l.column) (raw_of (tables_of l.file)).machines in
    record {
      from : 1 ≤ l.first;
      forward : l.first ≤ l.end;
      to : l.end ≤ length (raw_of (tables_of l.file)).machines + 1;
      below : (i : ℕ) → i + 1 < l.first → slice_index keys i < l.method;
      above : (i : ℕ) → l.end ≤ i + 1 → i < length keys → l.method + 1 ≤ slice_index keys i;
      later : l.fn.steps ≤ l.steps;
      halved : Halved (length (raw_of (tables_of l.file)).machines) (l.steps - l.fn.steps) (l.end - l.first);
    }

abbrev pub decreases-halves : goal.decreases-halves
decreases-halves g l = l.end - l.first
