use Rattle.std.proofs.Common.{sym, ◌∙◌}
use Rattle.ppdb_maps.{specs.Rules.{second_signature}, proofs.Refusing.{repeated, signature_dropped, signature_keeps}, proofs.Adding.{signature_added}}
use Rattle.ppdb_maps.proofs.draft.Draft.add_signature.Goals as goal

pub returns-then-contains : goal.returns-then-contains
returns-then-contains c = λ before closed.
    repeated before _ (second_signature (sym (closed.others.signed c.args.method) ∙ (sym c.contains.ensures ∙ c.if-contains.true)))

pub returns-then-contains-2 : goal.returns-then-contains-2
returns-then-contains-2 c = λ before closed.
    signature_dropped before c.args.method c.args.new
    (sym (closed.others.signed c.args.method) ∙ (sym c.contains.ensures ∙ c.if-contains.false))
    (sym (closed.others.drops c.args.method) ∙ (sym c.contains-2.ensures ∙ c.if-contains-2.true))

pub returns : goal.returns
returns c = λ before closed.
    let fresh = sym (closed.others.signed c.args.method) ∙ (sym c.contains.ensures ∙ c.if-contains.false) in (
      signature_added before c.args.self.now _ _ c.args.method c.args.new closed fresh c.in_ok-push.ensures.items c.in_ok-insert.ensures,
      signature_keeps before c.args.method c.args.new fresh
          (sym (closed.others.drops c.args.method) ∙ (sym c.contains-2.ensures ∙ c.if-contains-2.false)),
    )
