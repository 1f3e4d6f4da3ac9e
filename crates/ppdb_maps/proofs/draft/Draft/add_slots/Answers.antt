use Rattle.std.proofs.Common.{sym, ◌∙◌}
use Rattle.ppdb_maps.{specs.Rules.{second_slots}, proofs.Refusing.{repeated, slots_dropped}}
use Rattle.ppdb_maps.proofs.draft.Draft.add_slots.Goals as goal

pub returns-then-contains : goal.returns-then-contains
returns-then-contains c = λ before closed.
    repeated before _ (second_slots (sym (closed.others.slotted c.args.method) ∙ (sym c.contains.ensures ∙ c.if-contains.true)))

pub returns-then-contains-2 : goal.returns-then-contains-2
returns-then-contains-2 c = λ before closed.
    slots_dropped before c.args.method (sym (closed.others.slotted c.args.method) ∙ (sym c.contains.ensures ∙ c.if-contains.false))
    (sym (closed.others.drops c.args.method) ∙ (sym c.contains-2.ensures ∙ c.if-contains-2.true))
