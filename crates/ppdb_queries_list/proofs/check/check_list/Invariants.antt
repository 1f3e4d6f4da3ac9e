-- So many lines were read.
use Rattle.std.{proofs.Common.{◌≤◌, ◌+◌, length}, specs.Str.Lines.{lines}}
use Rattle.ppdb_queries_list.proofs.Checking.{SoFar}
use Rattle.ppdb_queries_list.proofs.check.check_list.Given as goal

abbrev pub invariant-loop-rest : goal.invariant-loop-rest
invariant-loop-rest l = record {
  so_far : SoFar (lines l.list) (lines l.rest) l.number;
  room : l.number + length l.rest ≤ 134217729;
}

abbrev pub decreases-loop-rest : goal.decreases-loop-rest
decreases-loop-rest l = length l.rest
