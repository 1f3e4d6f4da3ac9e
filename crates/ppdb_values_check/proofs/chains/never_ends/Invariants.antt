use Rattle.std.{proofs.Common.{◌==◌, length}, specs.List.{count_by}}
use Rattle.ppdb_tables.specs.Marks.{WalksTo}
use Rattle.ppdb_values_check.specs.Chains.{parent_of}
use Rattle.ppdb_values_check.proofs.chains.never_ends.Given as goal

abbrev pub invariant-loop-at : goal.invariant-loop-at
invariant-loop-at l = WalksTo (parent_of l.imports) (length l.imports) l.row l.at l.marks

abbrev pub decreases-loop-at : goal.decreases-loop-at
decreases-loop-at l = count_by (λ m. m == 0) l.marks
