use Rattle.std.proofs.Common.{arith}
use Rattle.ppdb_tables.specs.RawOf.{raw_of}
use Rattle.ppdb_verify.specs.Views.{tables_of}
use Rattle.ppdb_queries.proofs.Filters.{move_next_found, move_next_none, apart_more}
use Rattle.ppdb_queries.proofs.machines.move_next_of.Goals as goal

pub returns-then-machine-method-clause-found : goal.returns-then-machine-method-clause-found
returns-then-machine-method-clause-found g c =
    move_next_found (raw_of (tables_of c.args.file.now)).machines c.args.method c.loop-row.row c.machine-machine.result
    c.loop-row.invariant.apart (omega arith) c.machine-machine.ensures.row c.if-machine-method.true

pub loop-row-preserved : goal.loop-row-preserved
loop-row-preserved g c = record {
  apart = apart_more (λ machine. machine.kickoff) c.args.method (raw_of (tables_of c.args.file.now)).machines c.loop-row.row c.machine-machine.result
      c.loop-row.invariant.apart (omega arith) c.machine-machine.ensures.row c.if-machine-method.false;
  later = omega arith;
  cost = omega arith;
}

pub returns-clause-found : goal.returns-clause-found
returns-clause-found g c =
    let shape = c.facts.ensures.rules.shape.machines in
    move_next_none (raw_of (tables_of c.args.file.now)).machines c.args.method (λ j inside. c.loop-row.invariant.apart j (omega (arith, shape)))
