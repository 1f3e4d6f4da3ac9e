use Rattle.std.proofs.Common.{ℕ, ◌+◌, ◌<◌, length}
use Rattle.ppdb_tables.specs.{Chains.{NeverEnds}, Marks.{MarksEnd}}
use Rattle.ppdb_values_check.specs.Chains.{parent_of}
use Rattle.ppdb_values_check.proofs.chains.chains_end.Given as goal

abbrev pub invariant-loop-i : goal.invariant-loop-i
invariant-loop-i l = record {
  ended : (k : ℕ) → k < l.i → ¬ (NeverEnds (parent_of l.imports) (k + 1));
  marks : MarksEnd (parent_of l.imports) (length l.imports) (l.i + 1) l.marks;
}
