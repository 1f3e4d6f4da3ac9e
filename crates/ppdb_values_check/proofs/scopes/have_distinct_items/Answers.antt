use Rattle.std.proofs.{Common.{refl, subst}, lemmas.List.Elements.{All-more}}
use Rattle.ppdb_values_check.{specs.Scopes.{HasDistinctItems}, proofs.Listed.{all_taken, not_all, refuted, says_no}}
use Rattle.ppdb_values_check.proofs.scopes.have_distinct_items.Goals as goal

pub returns-then-not-branch : goal.returns-then-not-branch
returns-then-not-branch c =
    says_no (not_all HasDistinctItems c.args.scopes.now c.loop-scope.scope-index c.scope-item.result c.loop-scope-test.true c.scope-item.is
    (refuted c.in_ok-has_distinct_items.field-0 c.in_ok-has_distinct_items.ensures c.if-not-branch.true))

pub loop-scope-preserved : goal.loop-scope-preserved
loop-scope-preserved c = All-more HasDistinctItems c.args.scopes.now c.loop-scope.scope-index c.scope-item.result c.loop-scope-test.true c.loop-scope.invariant
    (subst HasDistinctItems c.scope-item.is (c.in_ok-has_distinct_items.ensures.0 c.if-not-branch.false))

pub returns : goal.returns
returns c = ((λ _. all_taken HasDistinctItems c.args.scopes.now c.loop-scope.scope-index c.loop-scope-test.false c.loop-scope.invariant), (λ _. refl))
