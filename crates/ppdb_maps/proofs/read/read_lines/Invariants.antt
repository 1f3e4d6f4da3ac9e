-- The draft holds what the lines so far say, and the others are left.
use Rattle.std.{proofs.Common.{◌≤◌, ◌+◌, length}, specs.Str.Lines.{lines}}
use Rattle.ppdb_maps.proofs.Looping.{SoFar}
use Rattle.ppdb_maps.proofs.read.read_lines.Given as goal

abbrev pub invariant-loop-rest : goal.invariant-loop-rest
invariant-loop-rest l = record {
  so_far : SoFar l.version (lines l.text) (lines l.rest) l.number l.draft;
  room : l.number + length l.rest ≤ 134217730;
}

abbrev pub decreases-loop-rest : goal.decreases-loop-rest
decreases-loop-rest l = length l.rest
