use Rattle.std.proofs.Common.{arith, vec_len}
use Rattle.ppdb_tables.{specs.RawOf.{raw_of}, proofs.NumberedRows.{row_within}}
use Rattle.ppdb_verify_rules.proofs.Nesting.{at_new_method, at_same_method}
use Rattle.ppdb_verify_rules.proofs.scopes.go_to.Goals as goal

pub returns-then-scope : goal.returns-then-scope
returns-then-scope g c = rw c.clear-then-scope.ensures.items
    (at_new_method (raw_of c.args.tables.now) c.args.row c.args.scope.now c.scope.result c.requires.judged c.requires.there c.scope.ensures.row c.if-scope.true)

pub returns-else-scope : goal.returns-else-scope
returns-else-scope g c = rw c.close.ensures.kept
    (at_same_method (raw_of c.args.tables.now) c.args.row (vec_len c.close.new.ends) c.args.scope.now c.scope.result c.args.ends.now.items
    c.requires.judged c.requires.there c.scope.ensures.row
    (let w = row_within (raw_of c.args.tables.now).scopes c.args.row c.args.scope.now c.requires.there in
    omega (arith, w.0)) c.if-scope.false (c.requires.opened c.scope.result c.scope.ensures.row)
    c.close.ensures.shorter c.close.ensures.closed (rw c.close.ensures.kept at c.close.ensures.last))

pub scope-requires : goal.scope-requires
scope-requires g c =
    let w = row_within (raw_of c.args.tables.now).scopes c.args.row c.args.scope.now c.requires.there in
    record { there = (omega (arith, w.0), omega (arith, w.1, c.shape.ensures.scopes)) }
