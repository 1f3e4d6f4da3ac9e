use Rattle.std.{proofs.Common.{sym, ap, subst, ◌∙◌}, specs.Option.{option_copied}, specs.Slice.{IsGetRangeResult}}
use Rattle.map_compose.proofs.Places.{none_lent, range_lent}
use Rattle.map_compose.proofs.joined.JoinedRuns.of_method.Goals as goal

pub returns-in_err-line : goal.returns-in_err-line
returns-in_err-line c = λ m readable are.
    ap (λ r. option_copied r) c.from_residual.ensures
    ∙ none_lent m c.args.method (sym (c.line_of.ensures m readable are) ∙ c.in_err-line.was)

pub returns : goal.returns
returns c = λ m readable are.
    let range : IsGetRangeResult c.args.self.now.runs.items c.in_ok-line.line.start c.in_ok-line.line.end c.get.result =
    subst (λ xs. IsGetRangeResult xs c.in_ok-line.line.start c.in_ok-line.line.end c.get.result) c.deref.ensures.value c.get.ensures.lookup in
    range_lent c.args.self.now m c.args.method c.in_ok-line.line c.get.result are (sym (c.line_of.ensures m readable are) ∙ c.in_ok-line.was) range
