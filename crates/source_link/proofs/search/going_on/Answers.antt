use Rattle.std.{proofs.Common.{◌+◌, ◌≤◌, List, length, take, subst, sym, arith, ◌∙◌}, specs.Prelude.{Contains}, specs.List.{AllWithin}}
use Rattle.std.proofs.lemmas.{List.{take_rest}, List.Sorted.{IsNonDecreasingBy-take, IsNonDecreasingBy-drop}}
use Rattle.source_link.{specs.declared.pair.Pair.{Pair}, specs.Search.{rank_at}, proofs.Places.{ranked_kept}}
use Rattle.source_link.proofs.search.going_on.Goals as goal

pub first_not_below-requires-2 : goal.first_not_below-requires-2
first_not_below-requires-2 c =
    IsNonDecreasingBy-take (rank_at c.args.at) _ _ (IsNonDecreasingBy-drop (rank_at c.args.at) _ _ c.requires.rising)

pub returns-clause-all : goal.returns-clause-all
returns-clause-all c pair there is =
    let n = c.first_not_below.result in let m = c.first_not_below-2.result in let part = c.args.part.now in
    let same = take_rest part n in
    subst (λ (rest : List Pair). Contains (take m rest) pair) (sym same)
    (ranked_kept part c.args.at n m (c.from-rank.result + 2) pair c.first_not_below.ensures.below
    (subst (λ (rest : List Pair). AllWithin (λ p. c.from-rank.result + 2 + 1 ≤ rank_at c.args.at p) rest m (length rest)) same
    c.first_not_below-2.ensures.above)
    there (is ∙ (let e = c.from-rank.ensures in let v = c.to_ascii_lowercase.ensures.value in omega (arith, e, v))))
