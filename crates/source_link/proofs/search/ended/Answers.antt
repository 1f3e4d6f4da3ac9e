use Rattle.source_link.proofs.Places.{read_at, least_ended, none_ended}
use Rattle.std.proofs.Common.{sym, ◌∙◌}
use Rattle.source_link.proofs.search.ended.Goals as goal

pub returns-then-rank-eq1 : goal.returns-then-rank-eq1
returns-then-rank-eq1 c =
    let first = c.in_ok-first.first.now in
    let at = read_at c.args.part.now c.first_not_below.result c.get.result c.in_ok-first.first c.get.ensures.lookup c.in_ok-first.was in (
      (c.first_not_below.result, at.0, sym at.1),
      sym c.rank.ensures ∙ c.if-rank-eq1.true,
      least_ended c.args.part.now c.args.at c.first_not_below.result first c.requires.order c.first_not_below.ensures.below at.0 at.1,
    )

pub returns-else-rank-eq1 : goal.returns-else-rank-eq1
returns-else-rank-eq1 c =
    let first = c.in_ok-first.first.now in
    let at = read_at c.args.part.now c.first_not_below.result c.get.result c.in_ok-first.first c.get.ensures.lookup c.in_ok-first.was in
    none_ended c.args.part.now c.args.at c.first_not_below.result first c.requires.rising c.first_not_below.ensures.below c.first_not_below.ensures.above at.0
    at.1
    (λ one. c.if-rank-eq1.false (c.rank.ensures ∙ one))
