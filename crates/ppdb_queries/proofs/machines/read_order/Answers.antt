use Rattle.std.{proofs.Common.{arith, map, true}, specs.Bool.{OnTrue}}
use Rattle.ppdb_tables.specs.RawOf.{raw_of}
use Rattle.ppdb_verify.specs.Views.{tables_of}
use Rattle.ppdb_queries.proofs.{Keys.{key_at}, Orders.{found_more, found_all, still_rises, next_last, all_rise, RisesBefore}}
use Rattle.ppdb_queries.proofs.machines.read_order.Goals as goal

pub loop-row-init : goal.loop-row-init
loop-row-init g c = record {
  found = λ j here. absurd (omega arith);
  rising = λ i j before here. absurd (omega arith);
  last = λ j e. absurd (omega (arith, e));
  later = omega arith;
  cost = omega arith;
}

pub loop-row-preserved : goal.loop-row-preserved
loop-row-preserved g c =
    let machines = (raw_of (tables_of c.args.file.now)).machines in
    let keys = map (λ machine. machine.kickoff) machines in
    let at = key_at (λ machine. machine.kickoff) machines c.loop-row.row c.machine-machine.result c.machine-machine.ensures.row in
    record {
      found = rw c.found_by-found.ensures (found_more machines c.args.method c.loop-row.row c.machine-machine.result c.loop-row.found c.loop-row.invariant.found
          (omega arith) c.machine-machine.ensures.row);
      rising = still_rises keys c.loop-row.row c.loop-row.last c.machine-machine.result.kickoff c.loop-row.rises c.rises_to-rises.result
          c.loop-row.invariant.rising c.loop-row.invariant.last at c.rises_to-rises.ensures;
      last = next_last keys c.loop-row.row c.machine-machine.result.kickoff at;
      later = omega arith;
      cost = omega arith;
    }

pub returns-then-rises-clause-found : goal.returns-then-rises-clause-found
returns-then-rises-clause-found g c =
    let shape = c.facts.ensures.rules.shape.machines in
    found_all (raw_of (tables_of c.args.file.now)).machines c.args.method c.loop-row.row c.loop-row.found c.loop-row.invariant.found (omega (arith, shape))

pub returns-then-rises-clause-order : goal.returns-then-rises-clause-order
returns-then-rises-clause-order g c =
    let shape = c.facts.ensures.rules.shape.machines in
    let rises : OnTrue true (RisesBefore (map (λ machine. machine.kickoff) (raw_of (tables_of c.args.file.now)).machines) c.loop-row.row) =
    rw c.if-rises.true at c.loop-row.invariant.rising in
    all_rise (raw_of (tables_of c.args.file.now)).machines c.loop-row.row rises (omega (arith, shape))

pub returns-else-rises-clause-found : goal.returns-else-rises-clause-found
returns-else-rises-clause-found g c =
    let shape = c.facts.ensures.rules.shape.machines in
    found_all (raw_of (tables_of c.args.file.now)).machines c.args.method c.loop-row.row c.loop-row.found c.loop-row.invariant.found (omega (arith, shape))
