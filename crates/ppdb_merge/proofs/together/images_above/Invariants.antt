use Rattle.std.proofs.Common.{◌≡◌, ◌+◌, [], map, take}
use Rattle.ppdb_merge.specs.Together.{images_above}
use Rattle.ppdb_merge.proofs.together.images_above.Given as goal

abbrev pub invariant-loop-trace : goal.invariant-loop-trace
invariant-loop-trace g l = record {
  input : l.input ≡ 1 + l.trace-index;
  none : images_above (map g.T.Counted.trace (take l.trace-index l.traces)) ≡ [];
}
