use Rattle.std.{proofs.Common.{sym, ap, ◌∙◌}, specs.Prelude.{is_some}}
use Rattle.ppdb_maps.{specs.Rules.{second_cross}, proofs.Refusing.{repeated, cross_undeclared, cross_keeps}, proofs.Adding.{cross_added}}
use Rattle.ppdb_maps.proofs.draft.Draft.add_cross.Goals as goal

pub returns-then-contains : goal.returns-then-contains
returns-then-contains c = λ before closed.
    repeated before _ (second_cross (sym (closed.others.moved c.args.line.table c.args.line.old) ∙ (sym c.contains.ensures ∙ c.if-contains.true)))

pub returns-then-not-contains_key : goal.returns-then-not-contains_key
returns-then-not-contains_key c = λ before closed.
    cross_undeclared before c.args.line
    (sym (closed.others.moved c.args.line.table c.args.line.old) ∙ (sym c.contains.ensures ∙ c.if-contains.false))
    (sym (ap is_some (closed.others.counts c.args.line.table)) ∙ sym c.if-not-contains_key.ensures)

pub returns : goal.returns
returns c = λ before closed.
    let fresh = sym (closed.others.moved c.args.line.table c.args.line.old) ∙ (sym c.contains.ensures ∙ c.if-contains.false) in (
      cross_added before c.args.self.now _ _ c.args.line closed fresh c.in_ok-push.ensures.items c.in_ok-insert.ensures,
      cross_keeps before c.args.line fresh (sym (ap is_some (closed.others.counts c.args.line.table)) ∙ sym c.if-not-contains_key.ensures),
    )
