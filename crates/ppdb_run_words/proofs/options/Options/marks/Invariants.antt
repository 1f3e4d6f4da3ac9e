use Rattle.std.proofs.Common.{◌≡◌, ◌++◌, length}
use Rattle.ppdb_run_words.specs.{Task.{marks_in}, Words.{texts}}
use Rattle.ppdb_run_words.proofs.options.Options.marks.Given as goal

abbrev pub invariant-loop-word : goal.invariant-loop-word
invariant-loop-word l = l.marks ++ marks_in (texts l.rest) ≡ marks_in (texts l.self.words.now)

abbrev pub decreases-loop-word : goal.decreases-loop-word
decreases-loop-word l = length l.rest
