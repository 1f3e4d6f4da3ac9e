use Rattle.std.proofs.Common.{sym, ◌∙◌}
use Rattle.ppdb_maps.{specs.Rules.{second_shares}, proofs.Refusing.{repeated, shares_keeps}, proofs.Adding.{shares_added}}
use Rattle.ppdb_maps.proofs.draft.Draft.add_shares.Goals as goal

pub returns-then-self : goal.returns-then-self
returns-then-self c = λ before closed. repeated before _ (second_shares (sym closed.others.shares ∙ c.if-self.true))

pub returns : goal.returns
returns c = λ before closed. (
  shares_added before c.args.self.now closed,
  shares_keeps before (sym closed.others.shares ∙ c.if-self.false),
)
