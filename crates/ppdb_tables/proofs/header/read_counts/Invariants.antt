use Rattle.std.proofs.Common.{◌≡◌, ℕ, ◌+◌, ◌*◌, ◌<◌, ◌≤◌, length, slice_index}
use Rattle.ppdb_tables.{specs.Counts.{count_place}, specs.Tables.{table_rows, count_in, valid}, proofs.FirstOfTables.{FitMethods}}
use Rattle.ppdb_tables.proofs.header.read_counts.Given as goal

abbrev pub invariant-loop-table : goal.invariant-loop-table
invariant-loop-table l = record {
  place : l.at ≡ count_place 24 (valid l.bytes) l.table;
  small : l.at ≤ 24 + 4 * l.table;
  inside : l.at ≤ length l.bytes;
  size : length l.rows ≡ 64;
  few : (t : ℕ) → t < l.table → table_rows l.bytes t ≤ 16777215;
  methods : 0x31 < l.table → FitMethods (slice_index l.head.rows 6) l.bytes;
  rows : (t : ℕ) → t < l.table → slice_index l.rows t ≡ count_in l.head l.bytes t;
}
