use Rattle.std.proofs.Common.{◌<◌, ◌+◌, ◌∷◌, ◌++◌, [], sym, subst, ap, ◌∙◌}
use Rattle.ppdb_values_check.{specs.Scopes.{IsNested, WasOpen}, proofs.Open.{from_open, is_open, is_then_open, open_pushed}, proofs.Pairs.{pairs_more}}
use Rattle.ppdb_values_check.proofs.nesting.are_nested.Goals as goal

pub loop-place-preserved : goal.loop-place-preserved
loop-place-preserved c =
    let nested = c.lies_in_open.ensures.0 c.if-not-lies_in_open.false in
    let opened = from_open c.args.scopes.now c.loop-place.place c.loop-place-test.true c.index-scopes-place.result c.index-scopes-place.is
    c.go_to.new.ends.items c.loop-place.place c.go_to.ensures in
    let some : c.index-scopes-place.result.range.start < c.index-scopes-place.result.range.end =
    subst (λ scope. scope.range.start < scope.range.end) (sym c.index-scopes-place.is)
    (c.requires.ranges c.loop-place.place c.index-scopes-place.result c.loop-place-test.true) in
    let pushed = c.in_ok-push.ensures.items ∙ ap (λ scope. c.go_to.new.ends.items ++ scope.range.end ∷ []) (sym c.index-scopes-place.is) in
    record {
      nested = pairs_more IsNested c.args.scopes.now c.loop-place.place c.loop-place.invariant.nested nested;
      opened = subst (λ ends. WasOpen c.args.scopes.now (c.loop-place.place + 1) ends) (sym pushed)
          (is_then_open c.args.scopes.now c.loop-place.place (c.go_to.new.ends.items ++ c.index-scopes-place.result.range.end ∷ [])
          (is_open c.args.scopes.now c.loop-place.place c.loop-place-test.true c.index-scopes-place.result c.index-scopes-place.is
          (c.go_to.new.ends.items ++ c.index-scopes-place.result.range.end ∷ []) (c.loop-place.place + 1)
          (open_pushed c.args.scopes.now c.loop-place.place c.loop-place-test.true c.index-scopes-place.result c.index-scopes-place.is c.go_to.new.ends.items
          opened nested some)));
    }
