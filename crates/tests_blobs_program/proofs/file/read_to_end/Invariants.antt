use Rattle.std.proofs.Common.{length, ◌-◌, ◌+◌}
use Rattle.tests_blobs_program.proofs.file.read_to_end.Given as goal

abbrev pub decreases-loop-buffer : goal.decreases-loop-buffer
decreases-loop-buffer g l = 134217728 + 1 - length l.into
