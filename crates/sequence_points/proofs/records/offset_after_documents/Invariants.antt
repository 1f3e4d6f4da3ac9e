use Rattle.std.proofs.Common.{◌≡◌, ◌-◌, ◌<◌, ◌≤◌, length}
use Rattle.sequence_points.specs.{Records.{sums}, Places.{points_left, entries_of}}
use Rattle.sequence_points.proofs.records.offset_after_documents.Given as goal

abbrev pub invariant-documents : goal.invariant-documents
invariant-documents l = record {
  same : points_left l.limits l.blob l.fn.start ≡ points_left l.limits l.blob l.place;
  within : l.place.at ≤ length l.blob;
  offset : (sums (entries_of l.place)).offset < 536870912;
}

abbrev pub decreases-documents : goal.decreases-documents
decreases-documents l = length l.initial.blob - l.place.at
