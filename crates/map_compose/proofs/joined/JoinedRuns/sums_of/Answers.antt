use Rattle.std.{proofs.Common.{sym, subst, ◌∙◌}, specs.Slice.{IsGetRangeResult}}
use Rattle.map_compose.proofs.Places.{sums_lent}
use Rattle.map_compose.proofs.joined.JoinedRuns.sums_of.Goals as goal

pub returns : goal.returns
returns c = λ m readable are.
    let range : IsGetRangeResult c.args.self.now.sums.items c.in_ok-line.line.start c.in_ok-line.line.end c.get.result =
    subst (λ xs. IsGetRangeResult xs c.in_ok-line.line.start c.in_ok-line.line.end c.get.result) c.deref.ensures.value c.get.ensures.lookup in
    sums_lent c.args.self.now m c.args.method c.in_ok-line.line c.get.result are (sym (c.line_of.ensures m readable are) ∙ c.in_ok-line.was) range
