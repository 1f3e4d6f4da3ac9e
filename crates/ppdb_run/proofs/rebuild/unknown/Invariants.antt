use Rattle.ppdb_tables.specs.RawOf.{raw_of}
use Rattle.ppdb_verify.specs.Views.{tables_of}
use Rattle.ppdb_run.proofs.Unknowns.{Passed}
use Rattle.ppdb_run.proofs.rebuild.unknown.Given as goal

abbrev pub invariant-loop-row : goal.invariant-loop-row
invariant-loop-row g l = Passed l.marks (raw_of (tables_of l.file)) l.row
