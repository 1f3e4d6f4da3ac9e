use Rattle.std.{proofs.Common.{sym, ap, ◌∙◌}, specs.Prelude.{is_some}}
use Rattle.ppdb_maps.{specs.Rules.{second_link}, proofs.Refusing.{repeated, link_keeps}, proofs.Adding.{link_added}}
use Rattle.ppdb_maps.proofs.draft.Draft.add_link.Goals as goal

pub returns-then-is_some : goal.returns-then-is_some
returns-then-is_some c = λ before closed.
    repeated before _ (second_link (sym (ap is_some closed.others.link) ∙ (sym c.is_some.ensures ∙ c.if-is_some.true)))

pub returns : goal.returns
returns c = λ before closed. (
  link_added before c.args.self.now c.args.value closed,
  link_keeps before c.args.value (sym (ap is_some closed.others.link) ∙ (sym c.is_some.ensures ∙ c.if-is_some.false)),
)
