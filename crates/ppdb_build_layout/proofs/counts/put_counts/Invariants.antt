use Rattle.std.{proofs.Common.{◌≡◌, ◌++◌}, specs.List.{range_with_len}}
use Rattle.ppdb_build_layout.specs.Bytes.{with_rows, counts_of}
use Rattle.ppdb_build_layout.proofs.counts.put_counts.Given as goal

abbrev pub invariant-loop-i : goal.invariant-loop-i
invariant-loop-i l = l.into ≡ l.initial.into ++ counts_of l.counts (with_rows l.counts (range_with_len l.first l.i))
