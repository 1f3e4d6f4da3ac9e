use Rattle.std.proofs.Common.{sym, ap, ◌≡◌, ◌∙◌, false, subst, Some, None}
use Rattle.map_compose.{specs.Runs.{goes_on}, specs.Joining.{JoinsOne}, proofs.JoinedRuns.{both, joins_first, joins_on, joins_apart, ends_on}}
use Rattle.map_compose.proofs.joining.join.Goals as goal

pub returns-in-None-clause-joins : goal.returns-in-None-clause-joins
returns-in-None-clause-joins c = subst (λ o. JoinsOne o c.args.run None c.args.run) (sym c.in-None.is) (joins_first c.args.run)

pub returns-in-Some-clause-joins : goal.returns-in-Some-clause-joins
returns-in-Some-clause-joins c = subst (λ o. JoinsOne o (both c.in-Some.last c.args.run) None c.args.run) (sym c.in-Some.is)
    (joins_on c.in-Some.last c.args.run (sym c.goes_on.ensures ∙ c.if-goes_on.true))

pub returns-in-Some-clause-ends : goal.returns-in-Some-clause-ends
returns-in-Some-clause-ends c = ends_on c.in-Some.last c.args.run (sym c.goes_on.ensures ∙ c.if-goes_on.true)

pub returns-in-Some-2-clause-joins : goal.returns-in-Some-2-clause-joins
returns-in-Some-2-clause-joins c =
    let e : Some c.in-Some-2.last ≡ Some c.in-Some.last = sym c.in-Some-2.is ∙ c.in-Some.is in
    let same : c.in-Some-2.last ≡ c.in-Some.last = cc in
    let apart : goes_on c.in-Some-2.last c.args.run ≡ false = ap (λ r. goes_on r c.args.run) same ∙ (sym c.goes_on.ensures ∙ c.if-goes_on.false) in
    subst (λ o. JoinsOne o c.args.run (Some c.in-Some-2.last) c.args.run) (sym c.in-Some-2.is) (joins_apart c.in-Some-2.last c.args.run apart)
