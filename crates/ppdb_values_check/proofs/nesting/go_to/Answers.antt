use Rattle.std.proofs.Common.{◌<◌, ◌-◌, [], length, take, vec_len, arith}
use Rattle.ppdb_values_check.proofs.Open.{at_new_method, at_same_method, from_open, is_open, was_open}
use Rattle.ppdb_values_check.proofs.nesting.go_to.Goals as goal

pub returns-then-last-scope : goal.returns-then-last-scope
returns-then-last-scope c =
    let some : 0 < c.args.place = omega (arith, c.if-place-eq0.false) in
    rw c.clear-then-last-scope.ensures.items
    (is_open c.args.scopes.now c.args.place c.requires.within c.index-scopes-place-2.result c.index-scopes-place-2.is [] c.args.place
    (at_new_method c.args.scopes.now c.args.place c.requires.within c.index-scopes-place-2.result c.index-scopes-place-2.is c.requires.ordered some
    c.index-scopes-place.result c.index-scopes-place.is c.if-last-scope.true))

pub returns : goal.returns
returns c =
    let some : 0 < c.args.place = omega (arith, c.if-place-eq0.false) in
    let below : c.args.place - 1 < length c.args.scopes.now = omega (arith, c.requires.within) in
    let opened = from_open c.args.scopes.now (c.args.place - 1) below c.index-scopes-place.result c.index-scopes-place.is c.args.ends.now.items c.args.place
    (was_open c.args.scopes.now c.args.place c.args.ends.now.items some c.requires.opened) in
    rw c.close.ensures.kept
    (is_open c.args.scopes.now c.args.place c.requires.within c.index-scopes-place-2.result c.index-scopes-place-2.is
    (take (vec_len c.close.new.ends) c.args.ends.now.items) c.args.place
    (at_same_method c.args.scopes.now c.args.place c.requires.within c.index-scopes-place-2.result c.index-scopes-place-2.is c.requires.ordered some
    c.index-scopes-place.result c.index-scopes-place.is (vec_len c.close.new.ends) c.args.ends.now.items c.if-last-scope.false opened
    c.close.ensures.shorter c.close.ensures.closed (rw c.close.ensures.kept at c.close.ensures.last)))
