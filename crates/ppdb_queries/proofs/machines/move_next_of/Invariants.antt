use Rattle.std.proofs.Common.{◌≢◌, ◌+◌, ◌<◌, ◌≤◌, ℕ, slice_index, map}
use Rattle.ppdb_tables.specs.RawOf.{raw_of}
use Rattle.ppdb_verify.specs.Views.{tables_of}
use Rattle.ppdb_queries.proofs.machines.move_next_of.Given as goal

abbrev pub invariant-loop-row : goal.invariant-loop-row
invariant-loop-row g l = record {
  apart : (j : ℕ) → j + 1 < l.row → slice_index (map (λ machine. machine.kickoff) (raw_of (tables_of l.file)).machines) j ≢ l.method;
  later : l.fn.steps ≤ l.steps;
  cost : l.steps + 1 ≤ l.fn.steps + l.row;
}
