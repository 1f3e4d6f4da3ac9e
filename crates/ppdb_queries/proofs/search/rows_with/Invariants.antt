use Rattle.std.proofs.Common.{◌-◌, ◌+◌, ◌<◌, ◌≤◌, ℕ, length, slice_index}
use Rattle.ppdb_queries.proofs.Powers.{Halved}
use Rattle.ppdb_queries.proofs.search.rows_with.Given as goal

abbrev pub invariant-halves : goal.invariant-halves
invariant-halves g l =
    let keys = g.R.KeyedRows.keys l.rows in
    record {
      from : 1 ≤ l.first;
      forward : l.first ≤ l.end;
      to : l.above ≤ length keys + 1;
      within : l.end ≤ l.above;
      below : (i : ℕ) → i + 1 < l.first → slice_index keys i < l.key;
      from_end : (i : ℕ) → l.end ≤ i + 1 → i < length keys → l.key ≤ slice_index keys i;
      past : (i : ℕ) → l.above ≤ i + 1 → i < length keys → l.key + 1 ≤ slice_index keys i;
      later : l.fn.steps ≤ l.steps;
      halved : Halved (length keys) (l.steps - l.fn.steps) (l.end - l.first);
    }

abbrev pub decreases-halves : goal.decreases-halves
decreases-halves g l = l.end - l.first
