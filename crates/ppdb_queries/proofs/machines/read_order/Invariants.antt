use Rattle.std.{proofs.Common.{◌+◌, ◌≤◌, map}, specs.Bool.{OnTrue}}
use Rattle.ppdb_tables.specs.RawOf.{raw_of}
use Rattle.ppdb_verify.specs.Views.{tables_of}
use Rattle.ppdb_queries.proofs.Orders.{FoundBefore, RisesBefore, IsLast}
use Rattle.ppdb_queries.proofs.machines.read_order.Given as goal

abbrev pub invariant-loop-row : goal.invariant-loop-row
invariant-loop-row g l =
    let machines = (raw_of (tables_of l.file)).machines in
    let keys = map (λ machine. machine.kickoff) machines in
    record {
      found : FoundBefore machines l.method l.row l.found;
      rising : OnTrue l.rises (RisesBefore keys l.row);
      last : IsLast keys l.row l.last;
      later : l.fn.steps ≤ l.steps;
      cost : l.steps + 1 ≤ l.fn.steps + l.row;
    }
