use Rattle.std.{proofs.Common.{◌≡◌, ◌≤◌, ◌*◌, take, length}, specs.List.{flat_map}}
use Rattle.ppdb_base.specs.Escaped.{escaped_byte}
use Rattle.map_compose.proofs.spelled.spelled_length.Given as goal

abbrev pub invariant-loop-byte : goal.invariant-loop-byte
invariant-loop-byte l = record {
  spelled : l.length ≡ length (flat_map escaped_byte (take l.byte-index l.name));
  few : l.length ≤ 4 * l.byte-index;
}
