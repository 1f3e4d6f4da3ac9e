use Rattle.std.{proofs.Common.{◌≡◌, ◌≤◌, length}, specs.Prelude.{sum_by}}
use Rattle.ppdb_merge_joined.specs.Parts.{ArePut}
use Rattle.ppdb_merge_joined.proofs.joining.parts_of.Given as goal

abbrev pub invariant-loop-file : goal.invariant-loop-file
invariant-loop-file l = record {
  put : ArePut l.yielded l.parts;
  documents : length l.parts.documents.gathered ≤ sum_by (λ file. length file.documents) l.yielded;
  imports : length l.parts.imports ≡ sum_by (λ file. length file.imports) l.yielded;
}
