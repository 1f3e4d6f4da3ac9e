use Rattle.std.{proofs.Common.{sym, ap, ◌∙◌}, specs.Prelude.{is_some}}
use Rattle.ppdb_maps.{specs.Rules.{second_slot}, proofs.Refusing.{repeated, slot_undeclared, slot_keeps}, proofs.Adding.{slot_added}}
use Rattle.ppdb_maps.proofs.draft.Draft.add_slot.Goals as goal

pub returns-then-contains_key : goal.returns-then-contains_key
returns-then-contains_key c = λ before closed.
    repeated before _ (second_slot (sym (ap is_some (closed.others.slots c.args.method c.args.old)) ∙ (sym c.contains_key.ensures ∙ c.if-contains_key.true)))

pub returns-then-not-contains : goal.returns-then-not-contains
returns-then-not-contains c = λ before closed.
    slot_undeclared before c.args.method c.args.old c.args.new
    (sym (ap is_some (closed.others.slots c.args.method c.args.old)) ∙ (sym c.contains_key.ensures ∙ c.if-contains_key.false))
    (sym (closed.others.slotted c.args.method) ∙ sym c.if-not-contains.ensures)

pub returns : goal.returns
returns c = λ before closed. (
  slot_added before c.args.self.now c.insert.new.self c.args.method c.args.old c.args.new closed c.in_ok-insert.ensures.updates.0,
  slot_keeps before c.args.method c.args.old c.args.new
      (sym (ap is_some (closed.others.slots c.args.method c.args.old)) ∙ (sym c.contains_key.ensures ∙ c.if-contains_key.false))
      (sym (closed.others.slotted c.args.method) ∙ sym c.if-not-contains.ensures),
)
