use Rattle.std.proofs.Common.{◌≡◌, ◌+◌, ◌-◌, ◌≤◌}
use Rattle.ppdb_tables.specs.RawOf.{raw_of}
use Rattle.ppdb_verify.specs.Views.{tables_of}
use Rattle.ppdb_queries.specs.Scopes.{views_between}
use Rattle.ppdb_queries.proofs.scopes.next_scope.Given as goal

abbrev pub invariant-rows : goal.invariant-rows
invariant-rows g l = record {
  from : l.fn.first ≤ l.row;
  to : l.row ≤ l.end;
  same : views_between (raw_of (tables_of l.file)) l.offset l.fn.first l.end ≡ views_between (raw_of (tables_of l.file)) l.offset l.row l.end;
  later : l.fn.steps ≤ l.steps;
  cost : l.steps ≤ l.fn.steps + (l.row - l.fn.first);
}

abbrev pub decreases-rows : goal.decreases-rows
decreases-rows g l = l.end - l.row
