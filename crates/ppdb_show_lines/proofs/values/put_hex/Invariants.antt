use Rattle.std.proofs.Common.{length}
use Rattle.hex.specs.Hex.{encode_lower}
use Rattle.ppdb_show_lines.proofs.Putting.{Putting}
use Rattle.ppdb_show_lines.proofs.values.put_hex.Given as goal

abbrev pub invariant-runs : goal.invariant-runs
invariant-runs g l =
    let sink = g.O.Sink in
    Putting (sink.written l.fn.out) (sink.written l.out) (sink.faults l.fn.out) (sink.faults l.out) (encode_lower l.rest) (encode_lower l.fn.bytes)

abbrev pub decreases-runs : goal.decreases-runs
decreases-runs g l = length l.rest
