use Rattle.std.{proofs.Common.{◌≡◌, ◌≤◌, length}, specs.List.{range_with_len}}
use Rattle.ppdb_build_layout.specs.Bytes.{with_rows}
use Rattle.ppdb_build_layout.proofs.counts.count.Given as goal

abbrev pub invariant-loop-i : goal.invariant-loop-i
invariant-loop-i l = record {
  exact : l.count ≡ length (with_rows l.counts (range_with_len l.first l.i));
  few : l.count ≤ l.i;
}
