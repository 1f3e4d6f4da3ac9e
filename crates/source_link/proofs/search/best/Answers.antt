use Rattle.std.{proofs.Common.{◌≡◌, length, sym, arith, refl, subst}, specs.List.Sorted.{IsNonDecreasingBy}}
use Rattle.source_link.{specs.Search.{rank_at}, proofs.Places.{read_at, first_place, first_rank, none_there}, proofs.Searched.{rising, narrowed_on, first_is_best}}
use Rattle.source_link.proofs.Searched.{found_is_best}
use Rattle.source_link.proofs.search.best.Goals as goal

pub ended-requires-clause-rising : goal.ended-requires-clause-rising
ended-requires-clause-rising c = rising c.args.pairs.now c.args.name.now c.loop-at.at c.loop-at.part.now c.loop-at.found c.loop-at.invariant (omega arith)

pub going_on-part-requires-clause-rising : goal.going_on-part-requires-clause-rising
going_on-part-requires-clause-rising c = rising c.args.pairs.now c.args.name.now c.loop-at.at c.loop-at.part.now c.loop-at.found c.loop-at.invariant
    (omega arith)

pub loop-at-preserved : goal.loop-at-preserved
loop-at-preserved c =
    narrowed_on c.args.pairs.now c.args.name.now c.loop-at.at _ c.loop-at.part.now c.going_on-part.result.now c.loop-at.found c.ended.result c.or-found.result
    c.loop-at.invariant (omega arith) refl c.ended.ensures c.or-found.ensures c.going_on-part.ensures.order c.going_on-part.ensures.those
    c.going_on-part.ensures.all

pub returns-in-Some : goal.returns-in-Some
returns-in-Some c =
    let at = read_at c.loop-at.part.now 0 c.first.result c.in-Some.pair c.first.ensures.item c.in-Some.is in
    first_is_best c.args.pairs.now c.args.name.now c.loop-at.at c.loop-at.part.now c.loop-at.found c.in-Some.pair.now c.loop-at.invariant (omega arith)
    (0, at.0, sym at.1) (λ pair there. first_place c.loop-at.part.now c.in-Some.pair.now pair c.loop-at.invariant.order at.0 at.1 there)
    (let e = c.rank.ensures in let l = c.if-rank-lt2.true in omega (arith, e, l))

pub returns-in_default : goal.returns-in_default
returns-in_default c =
    let at = read_at c.loop-at.part.now 0 c.first.result c.in-Some.pair c.first.ensures.item c.in-Some.is in
    let end : c.loop-at.at ≡ length c.args.name.now = omega arith in
    found_is_best c.args.pairs.now c.args.name.now c.loop-at.at c.loop-at.part.now c.loop-at.found c.loop-at.invariant end
    (first_rank c.loop-at.part.now (length c.args.name.now) 2 c.in-Some.pair.now
    (subst (λ n. IsNonDecreasingBy (rank_at n) c.loop-at.part.now) end
    (rising c.args.pairs.now c.args.name.now c.loop-at.at c.loop-at.part.now c.loop-at.found c.loop-at.invariant (omega (arith, end))))
    at.0 at.1 (let e = c.rank.ensures in let l = c.if-rank-lt2.false in omega (arith, e, l)))

pub returns-in_default-2 : goal.returns-in_default-2
returns-in_default-2 c =
    found_is_best c.args.pairs.now c.args.name.now c.loop-at.at c.loop-at.part.now c.loop-at.found c.loop-at.invariant (omega arith)
    (λ pair there. absurd (none_there c.loop-at.part.now c.first.result c.first.ensures.item c.in_default.is pair there))
