use Rattle.std.proofs.Common.{length}
use Rattle.ppdb_run_words.{specs.Words.{texts}, proofs.Choices.{Reads}}
use Rattle.ppdb_run_words.proofs.options.read_options.Given as goal

abbrev pub invariant-loop-word : goal.invariant-loop-word
invariant-loop-word l = Reads l.keep_id (texts l.rest) (texts l.words)

abbrev pub decreases-loop-word : goal.decreases-loop-word
decreases-loop-word l = length l.rest
