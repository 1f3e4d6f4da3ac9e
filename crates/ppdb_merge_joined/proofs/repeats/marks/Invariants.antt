use Rattle.std.proofs.Common.{◌≡◌, [], take}
use Rattle.ppdb_merge_joined.{specs.Repeats.{IsSeen, marks_after}, proofs.Marked.{keys_of}}
use Rattle.ppdb_merge_joined.proofs.repeats.marks.Given as goal

abbrev pub invariant-loop-input : goal.invariant-loop-input
invariant-loop-input g l = record {
  seen : IsSeen (keys_of g.T.Recorded.as_record (take l.input-index l.inputs)) l.seen;
  marks : l.marks.items ≡ marks_after g.T.Recorded.as_record [] (take l.input-index l.inputs);
}
