use Rattle.std.proofs.Common.{arith}
use Rattle.ppdb_tables.specs.RawOf.{raw_of}
use Rattle.ppdb_verify.specs.Views.{tables_of}
use Rattle.ppdb_show.{specs.QueryWalk.{IsViewOf}, proofs.Added.{walk_none, walk_next, walk_cut, walk_done, walk_cost}, proofs.Given.{each_first, each_rest}}
use Rattle.ppdb_show.proofs.{Given.{given_next}, Views.{views_there}}
use Rattle.ppdb_show.proofs.query.scopes.put_scopes.Goals as goal
use Rattle.ppdb_queries.proofs.Slots.{none_left}

pub scopes-init : goal.scopes-init
scopes-init g c =
    let raw = raw_of (tables_of c.args.file.now) in
    let rows = c.in-Ok.ensures.rows in
    let cost = c.in-Ok.ensures.cost in
    let later = c.in-Ok.ensures.later in
    record {
      each = rw c.in-Ok.ensures.scopes (views_there raw c.args.method c.args.offset);
      walk = walk_none _ _ _ _ _ _ _ c.in-Ok.ensures.scopes (omega (arith, rows, cost));
      later = omega (arith, later);
      known = c.requires.known;
    }

pub put_scope-requires-clause-view : goal.put_scope-requires-clause-view
put_scope-requires-clause-view g c =
    let raw = raw_of (tables_of c.args.file.now) in
    each_first (IsViewOf raw) _ _ _ (given_next c.scopes.scopes.items c.next.new.self.items c.in-Some.scope c.next.result c.next.ensures.answer c.in-Some.is
    c.next.ensures.left) c.scopes.invariant.each

pub scopes-preserved : goal.scopes-preserved
scopes-preserved g c =
    let raw = raw_of (tables_of c.args.file.now) in
    let e = given_next c.scopes.scopes.items c.next.new.self.items c.in-Some.scope c.next.result c.next.ensures.answer c.in-Some.is c.next.ensures.left in
    let cost = c.next.ensures.cost in
    let later = c.next.ensures.later in
    record {
      each = each_rest (IsViewOf raw) _ _ _ e c.scopes.invariant.each;
      walk = walk_next _ _ _ _ _ c.in-Some.scope _ _ _ _ _ _ c.scopes.invariant.walk e c.in_ok-put_scope.ensures.ok (omega (arith, cost));
      later = omega (arith, later);
      known = c.in_ok-put_scope.ensures.known;
    }

pub returns-in_err-put_scope-clause-cost : goal.returns-in_err-put_scope-clause-cost
returns-in_err-put_scope-clause-cost g c =
    let e = given_next c.scopes.scopes.items c.next.new.self.items c.in-Some.scope c.next.result c.next.ensures.answer c.in-Some.is c.next.ensures.left in
    let cost = c.next.ensures.cost in
    let h = walk_cut _ _ _ _ _ c.in-Some.scope _ _ _ _ c.put_scope.new.steps c.scopes.invariant.walk e (omega (arith, cost)) in
    omega (arith, h)

pub returns-clause-ok : goal.returns-clause-ok
returns-clause-ok g c =
    walk_done _ _ _ _ _ _ _ _ c.scopes.invariant.walk (none_left c.scopes.scopes.items c.next.result c.next.ensures.answer c.in_default-next.not-Some)

pub returns-clause-cost : goal.returns-clause-cost
returns-clause-cost g c =
    let h = walk_cost _ _ _ _ _ _ _ _ c.scopes.invariant.walk in
    let cost = c.next.ensures.cost in
    omega (arith, h, cost)
