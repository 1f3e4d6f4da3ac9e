use Rattle.std.proofs.Common.{sym, ◌∙◌, arith}
use Rattle.source_link.proofs.Texts.{past_end, longer, shorter}
use Rattle.source_link.proofs.compare.compare_lower.Goals as goal

pub returns-in_default : goal.returns-in_default
returns-in_default c =
    let past = past_end c.args.b.now c.loop-at.at c.get.result c.get.ensures.lookup c.in_default.is in
    sym (longer c.args.a.now c.args.b.now c.loop-at.at c.loop-at-test.true past) ∙ c.loop-at.invariant.same

pub returns-then-a-b : goal.returns-then-a-b
returns-then-a-b c =
    sym (shorter c.args.a.now c.args.b.now c.loop-at.at (omega arith) (omega arith)) ∙ c.loop-at.invariant.same
