use Rattle.ppdb_build_sample.proofs.{Annotated.{outer_scope, inner_scope}, Counting.{two_more}}
use Rattle.ppdb_build_sample.proofs.scopes.scopes.Goals as goal

pub loop-before-preserved : goal.loop-before-preserved
loop-before-preserved c = two_more outer_scope inner_scope c.loop-before.scopes c.push.new.self c.push-in-loop-before.new.self c.in_ok-outer.field-0
    c.in_ok-inner.field-0 c.loop-before.before c.loop-before.invariant c.in_ok-outer.ensures c.in_ok-inner.ensures c.in_ok-push.ensures.ok
    c.in_ok-push-2.ensures.ok
