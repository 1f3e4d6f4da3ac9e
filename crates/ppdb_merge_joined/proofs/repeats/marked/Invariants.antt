use Rattle.std.proofs.Common.{◌≡◌, length}
use Rattle.ppdb_merge_joined.specs.Repeats.{kept_by}
use Rattle.ppdb_merge_joined.proofs.repeats.marked.Given as goal

abbrev pub invariant-loop-item : goal.invariant-loop-item
invariant-loop-item g l = record { kept : l.kept ≡ kept_by l.marks l.yielded; at : l.at ≡ length l.yielded }
