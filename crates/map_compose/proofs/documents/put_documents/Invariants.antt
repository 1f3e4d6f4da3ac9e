use Rattle.std.proofs.Common.{length}
use Rattle.map_compose.{specs.Parts.{names_left}, specs.Says.{documents_say}, specs.Spelled.{AreLengthsOf}, proofs.Putting.{PutSome, names_say}}
use Rattle.map_compose.proofs.documents.put_documents.Given as goal

abbrev pub invariant-names : goal.invariant-names
invariant-names l = record {
  lengths : AreLengthsOf l.lengths l.second;
  puts : PutSome l.fn.text l.text (documents_say l.first l.second) (names_say l.first l.second (names_left l.first l.second l.passed));
}

abbrev pub decreases-names : goal.decreases-names
decreases-names l = length (names_left l.first l.second l.passed)
