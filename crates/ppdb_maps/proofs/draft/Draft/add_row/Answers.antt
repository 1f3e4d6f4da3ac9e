use Rattle.std.{proofs.Common.{sym, ap, ◌∙◌}, specs.Prelude.{is_some}, proofs.lemmas.Bool.{false≢true}}
use Rattle.ppdb_maps.{specs.Rules.{second_row}, proofs.Refusing.{repeated, row_undeclared, row_dropped, row_keeps}, proofs.Adding.{row_added}}
use Rattle.ppdb_maps.proofs.draft.Draft.add_row.Goals as goal
use Rattle.ppdb_maps.proofs.draft.Draft.add_row.Goals.{else-table-eq6-via-then-table-eq6+else-contains-2, else-table-eq6-via-else-table-eq6}

pub returns-then-contains : goal.returns-then-contains
returns-then-contains c = λ before closed.
    repeated before _ (second_row (sym (closed.others.moved c.args.table c.args.old) ∙ (sym c.contains.ensures ∙ c.if-contains.true)))

pub returns-then-not-contains_key : goal.returns-then-not-contains_key
returns-then-not-contains_key c = λ before closed.
    row_undeclared before c.args.table c.args.old c.args.new
    (sym (closed.others.moved c.args.table c.args.old) ∙ (sym c.contains.ensures ∙ c.if-contains.false))
    (sym (ap is_some (closed.others.counts c.args.table)) ∙ sym c.if-not-contains_key.ensures)

pub returns-then-contains-2 : goal.returns-then-contains-2
returns-then-contains-2 c = λ before closed.
    row_dropped before c.args.table c.args.old c.args.new
    (sym (closed.others.moved c.args.table c.args.old) ∙ (sym c.contains.ensures ∙ c.if-contains.false))
    (sym (ap is_some (closed.others.counts c.args.table)) ∙ sym c.if-not-contains_key.ensures)
    c.if-table-eq6.true (sym (closed.others.drops c.args.old) ∙ (sym c.contains-then-table-eq6.ensures ∙ c.if-contains-2.true))

pub returns : goal.returns
returns c = λ before closed.
    let fresh = sym (closed.others.moved c.args.table c.args.old) ∙ (sym c.contains.ensures ∙ c.if-contains.false) in (
      row_added before c.args.self.now _ _ c.args.table c.args.old c.args.new closed fresh c.in_ok-push.ensures.items c.in_ok-insert.ensures,
      row_keeps before c.args.table c.args.old c.args.new fresh
          (sym (ap is_some (closed.others.counts c.args.table)) ∙ sym c.if-not-contains_key.ensures)
          (λ six drop. elim c.else-table-eq6.branch [
            | else-table-eq6-via-then-table-eq6+else-contains-2 w ↦ false≢true
                (sym (sym (closed.others.drops c.args.old) ∙ (sym w.contains-then-table-eq6.ensures ∙ w.if-contains-2.false)) ∙ drop)
            | else-table-eq6-via-else-table-eq6 w ↦ w.if-table-eq6.false six
          ]),
    )
