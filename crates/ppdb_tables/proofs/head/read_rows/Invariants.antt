use Rattle.std.proofs.Common.{◌≡◌, ℕ, ◌+◌, ◌*◌, ◌<◌, ◌≤◌, length, slice_index}
use Rattle.ppdb_tables.specs.{Counts.{count_place}, Head.{pdb_rows, referenced}}
use Rattle.ppdb_tables.proofs.head.read_rows.Given as goal

abbrev pub invariant-loop-table : goal.invariant-loop-table
invariant-loop-table l = record {
  place : l.at ≡ count_place 32 (referenced l.bytes) l.table;
  small : l.at ≤ 32 + 4 * l.table;
  inside : l.at ≤ length l.bytes;
  size : length l.rows ≡ 64;
  few : (t : ℕ) → t < l.table → pdb_rows l.bytes t ≤ 16777215;
  rows : (t : ℕ) → t < l.table → slice_index l.rows t ≡ pdb_rows l.bytes t;
}
