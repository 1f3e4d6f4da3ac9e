use Rattle.std.{proofs.Common.{◌==◌}, specs.List.{count_by}}
use Rattle.ppdb_tables.specs.RawOf.{raw_of}
use Rattle.ppdb_verify_rules.specs.Chains.{WalksTo}
use Rattle.ppdb_verify_rules.proofs.imports.never_ends.Given as goal

abbrev pub invariant-loop-at : goal.invariant-loop-at
invariant-loop-at g l = WalksTo (raw_of l.tables).imports l.row l.at l.marks

abbrev pub decreases-loop-at : goal.decreases-loop-at
decreases-loop-at g l = count_by (λ m. m == 0) l.marks
