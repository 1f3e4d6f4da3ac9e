use Rattle.std.proofs.Common.{◌≡◌, ◌++◌, take, drop}
use Rattle.ppdb_build_bytes.specs.Drafts.{debug_counts_of}
use Rattle.ppdb_build_bytes.proofs.layout.counts_of.Given as goal

abbrev pub invariant-loop-i : goal.invariant-loop-i
invariant-loop-i l = l.counts ≡ take l.i l.system ++ drop l.i (debug_counts_of l.draft.rows)
