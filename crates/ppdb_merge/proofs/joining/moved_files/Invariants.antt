use Rattle.std.proofs.Common.{◌≡◌}
use Rattle.ppdb_merge.specs.Merged.{moved_files}
use Rattle.ppdb_merge.proofs.joining.moved_files.Given as goal

abbrev pub invariant-loop-trace : goal.invariant-loop-trace
invariant-loop-trace l = l.files ≡ moved_files l.yielded
