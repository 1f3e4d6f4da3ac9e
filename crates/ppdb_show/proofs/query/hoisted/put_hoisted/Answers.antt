use Rattle.std.proofs.Common.{arith}
use Rattle.ppdb_tables.specs.RawOf.{raw_of}
use Rattle.ppdb_verify.specs.Views.{tables_of}
use Rattle.ppdb_queries.{specs.Hoisted.{hoisted_at}, proofs.Slots.{none_left}}
use Rattle.ppdb_show.{specs.Query.{hoisted_line}, proofs.Added.{walk_none, walk_next, walk_done, walk_cost, adds_same, lines_each, none_each}}
use Rattle.ppdb_show.proofs.Given.{given_next}
use Rattle.ppdb_show.proofs.query.hoisted.put_hoisted.Goals as goal

pub locals-init : goal.locals-init
locals-init g c =
    let rows = c.in-Ok.ensures.rows in
    let cost = c.in-Ok.ensures.cost in
    record { walk = walk_none _ _ _ _ _ _ _ c.in-Ok.ensures.hoisted (omega (arith, rows, cost)) }

pub locals-preserved : goal.locals-preserved
locals-preserved g c =
    let e = given_next c.locals.locals.items c.next.new.self.items c.in-Some.local c.next.result c.next.ensures.answer c.in-Some.is c.next.ensures.left in
    let cost = c.next.ensures.cost in
    record {
      walk = walk_next _ _ _ _ _ c.in-Some.local _ _ _ _ _ _ c.locals.invariant.walk e c.in_ok-put_line.ensures (omega (arith, cost));
    }

pub returns-clause-ok : goal.returns-clause-ok
returns-clause-ok g c =
    adds_same c.args.printer.form _ _ _ _ (lines_each hoisted_line (hoisted_at (raw_of (tables_of c.args.file.now)) c.args.method c.args.offset))
    (walk_done _ _ _ _ _ _ _ _ c.locals.invariant.walk (none_left c.locals.locals.items c.next.result c.next.ensures.answer c.in_default-next.not-Some))

pub returns-clause-cost : goal.returns-clause-cost
returns-clause-cost g c =
    let none = none_each (hoisted_at (raw_of (tables_of c.args.file.now)) c.args.method c.args.offset) in
    let h = walk_cost _ _ _ _ _ _ _ _ c.locals.invariant.walk in
    let cost = c.next.ensures.cost in
    omega (arith, none, h, cost)

pub returns-in_err-put_line-clause-cost : goal.returns-in_err-put_line-clause-cost
returns-in_err-put_line-clause-cost g c =
    let none = none_each (hoisted_at (raw_of (tables_of c.args.file.now)) c.args.method c.args.offset) in
    let h = walk_cost _ _ _ _ _ _ _ _ c.locals.invariant.walk in
    let cost = c.next.ensures.cost in
    omega (arith, none, h, cost)
