use Rattle.std.proofs.Common.{arith, length}
use Rattle.ppdb_tables.specs.RawOf.{raw_of}
use Rattle.ppdb_verify.specs.Views.{tables_of}
use Rattle.ppdb_queries.proofs.Powers.{digits_most}
use Rattle.ppdb_queries.proofs.machines.move_next_by.Goals as goal

pub returns-in-Some-clause-cost : goal.returns-in-Some-clause-cost
returns-in-Some-clause-cost g c =
    let most = digits_most (length (raw_of (tables_of c.args.file.now)).machines) in
    let cost = c.in-Some.ensures.cost in
    omega (arith, most, cost)

pub returns-in-None-clause-cost : goal.returns-in-None-clause-cost
returns-in-None-clause-cost g c =
    let most = digits_most (length (raw_of (tables_of c.args.file.now)).machines) in
    let cost = c.in-None.ensures.cost in
    omega (arith, most, cost)
