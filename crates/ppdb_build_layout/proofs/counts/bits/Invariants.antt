use Rattle.std.{proofs.Common.{◌≡◌, ◌+◌, ◌<◌, ◌^◌}, specs.List.{range_with_len}}
use Rattle.ppdb_build_layout.specs.Bytes.{with_rows, bits_of}
use Rattle.ppdb_build_layout.proofs.counts.bits.Given as goal

abbrev pub invariant-loop-i : goal.invariant-loop-i
invariant-loop-i l = record {
  sum : l.bits ≡ bits_of (with_rows l.counts (range_with_len l.first l.i));
  below : l.bits < 2 ^ (l.first + l.i);
}
