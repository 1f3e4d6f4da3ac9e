use Rattle.std.proofs.Common.{◌≡◌, length}
use Rattle.ppdb_run_words.specs.{Task.{file_of, pairs_of}, Words.{texts}}
use Rattle.ppdb_run_words.proofs.inputs.file_in.Given as goal

abbrev pub invariant-loop-rest : goal.invariant-loop-rest
invariant-loop-rest l = file_of (pairs_of (texts l.rest)) l.left ≡ file_of (pairs_of (texts l.words)) l.number

abbrev pub decreases-loop-rest : goal.decreases-loop-rest
decreases-loop-rest l = length l.rest
