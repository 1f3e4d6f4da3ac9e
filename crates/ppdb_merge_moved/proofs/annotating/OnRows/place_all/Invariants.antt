use Rattle.std.proofs.Common.{ℕ, []}
use Rattle.ppdb_merge_moved.specs.OnRows.{HasAll}
use Rattle.ppdb_merge_moved.proofs.annotating.OnRows.place_all.Given as goal

abbrev pub invariant-loop-custom : goal.invariant-loop-custom
invariant-loop-custom l = (documents scopes variables constants imports : ℕ) → HasAll [] documents scopes variables constants imports l.fn.self
    → HasAll l.yielded documents scopes variables constants imports l.self
