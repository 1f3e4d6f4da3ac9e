use Rattle.std.{proofs.Common.{sym, ap, ◌∙◌}, specs.Prelude.{is_some}}
use Rattle.ppdb_maps.{specs.Rules.{second_gone}, proofs.Refusing.{repeated, gone_undeclared, gone_keeps}, proofs.Adding.{gone_added}}
use Rattle.ppdb_maps.proofs.draft.Draft.add_gone.Goals as goal

pub returns-then-contains : goal.returns-then-contains
returns-then-contains c = λ before closed.
    repeated before _ (second_gone (sym (closed.others.moved c.args.table c.args.old) ∙ (sym c.contains.ensures ∙ c.if-contains.true)))

pub returns-then-not-contains_key : goal.returns-then-not-contains_key
returns-then-not-contains_key c = λ before closed.
    gone_undeclared before c.args.table c.args.old
    (sym (closed.others.moved c.args.table c.args.old) ∙ (sym c.contains.ensures ∙ c.if-contains.false))
    (sym (ap is_some (closed.others.counts c.args.table)) ∙ sym c.if-not-contains_key.ensures)

pub returns : goal.returns
returns c = λ before closed.
    let fresh = sym (closed.others.moved c.args.table c.args.old) ∙ (sym c.contains.ensures ∙ c.if-contains.false) in (
      gone_added before c.args.self.now _ _ c.args.table c.args.old closed fresh c.in_ok-push.ensures.items c.in_ok-insert.ensures,
      gone_keeps before c.args.table c.args.old fresh (sym (ap is_some (closed.others.counts c.args.table)) ∙ sym c.if-not-contains_key.ensures),
    )
