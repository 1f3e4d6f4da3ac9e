use Rattle.std.proofs.Common.{◌≤◌, length}
use Rattle.ppdb_run_words.{specs.Words.{texts}, proofs.PairWords.{Prefix}}
use Rattle.ppdb_run_words.proofs.pairs.pairs_in_prefix.Given as goal

abbrev pub invariant-loop-rest : goal.invariant-loop-rest
invariant-loop-rest l = record { fits : length l.rest ≤ length l.words; prefix : Prefix (texts l.words) (texts l.rest) }

abbrev pub decreases-loop-rest : goal.decreases-loop-rest
decreases-loop-rest l = length l.rest
