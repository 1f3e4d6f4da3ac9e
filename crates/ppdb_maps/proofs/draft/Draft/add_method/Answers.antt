use Rattle.std.proofs.Common.{sym, ◌∙◌}
use Rattle.ppdb_maps.{specs.Rules.{second_method}, proofs.Refusing.{repeated, method_dropped, method_keeps}, proofs.Adding.{method_added}}
use Rattle.ppdb_maps.proofs.draft.Draft.add_method.Goals as goal

pub returns-then-contains : goal.returns-then-contains
returns-then-contains c = λ before closed.
    repeated before _ (second_method (sym (closed.methods.numbers c.args.method) ∙ (sym c.contains.ensures ∙ c.if-contains.true)))

pub returns-then-contains-2 : goal.returns-then-contains-2
returns-then-contains-2 c = λ before closed.
    method_dropped before c.args.method c.args.old_size c.args.new_size
    (sym (closed.methods.numbers c.args.method) ∙ (sym c.contains.ensures ∙ c.if-contains.false))
    (sym (closed.others.drops c.args.method) ∙ (sym c.contains-2.ensures ∙ c.if-contains-2.true))

pub returns : goal.returns
returns c = λ before closed.
    let fresh = sym (closed.methods.numbers c.args.method) ∙ (sym c.contains.ensures ∙ c.if-contains.false) in
    rw c.new.ensures (
      method_added before c.args.self.now c.args.method c.args.old_size c.args.new_size closed fresh,
      method_keeps before c.args.method c.args.old_size c.args.new_size fresh
          (sym (closed.others.drops c.args.method) ∙ (sym c.contains-2.ensures ∙ c.if-contains-2.false)),
    )
