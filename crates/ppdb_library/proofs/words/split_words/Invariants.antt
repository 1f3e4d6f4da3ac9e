use Rattle.std.{proofs.Common.{◌≡◌, ◌≢◌, ◌++◌, length}, specs.List.{All}}
use denote.Text.{Utf8}
use denote.Shadow.{shadow}
use Rattle.ppdb_run_words.specs.Words.{texts}
use Rattle.ppdb_library.specs.Words.{ended}
use Rattle.ppdb_library.proofs.words.split_words.Given as goal

abbrev pub invariant-loop-word : goal.invariant-loop-word
invariant-loop-word l = record {
  text : shadow (Utf8 l.rest);
  all : l.text ≡ ended (texts l.words.items) ++ l.rest;
  whole : All (λ word. All (λ byte. byte ≢ 0) word) (texts l.words.items);
}

abbrev pub decreases-loop-word : goal.decreases-loop-word
decreases-loop-word l = length l.rest
