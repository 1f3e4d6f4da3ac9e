use Rattle.std.{proofs.Common.{◌≡◌, List, ℕ, ◌++◌, length, ◌-◌, ◌+◌}, specs.Io.KnownBytes.{Consumes}}
use Rattle.ppdb_cli_files.proofs.reading.read_rest.Given as goal

-- what was read so far was put after what was there
abbrev pub invariant-loop-buffer : goal.invariant-loop-buffer
invariant-loop-buffer g l = (more : List ℕ) × (l.into ≡ l.initial.into ++ more) × Consumes (g.R.Read.remaining l.initial.file) (g.R.Read.remaining l.file) more

abbrev pub decreases-loop-buffer : goal.decreases-loop-buffer
decreases-loop-buffer g l = l.max + 1 - length l.into
