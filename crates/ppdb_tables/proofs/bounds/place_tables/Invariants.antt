use Rattle.std.proofs.Common.{◌≡◌, ℕ, ◌+◌, ◌<◌, ◌≤◌, length, take, sum, slice_index}
use Rattle.ppdb_tables.specs.{Layouts.{debug_tables, row_fields}, Tables.{rows_start}, Bounds.{StandsAt}}
use Rattle.ppdb_tables.proofs.bounds.place_tables.Given as goal

abbrev pub invariant-loop-index : goal.invariant-loop-index
invariant-loop-index l = record {
  place : l.at ≡ rows_start l.bytes + sum (row_fields l.sizes (take l.index debug_tables));
  inside : l.at ≤ length l.bytes;
  size : length l.places ≡ 8;
  places : (i : ℕ) → i < l.index → StandsAt l.sizes l.bytes i (slice_index l.places i);
}
