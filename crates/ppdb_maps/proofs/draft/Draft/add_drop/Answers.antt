use Rattle.std.proofs.{Common.{rules, sym, ◌∙◌}, lemmas.Bool.{false≢true}}
use Rattle.ppdb_maps.{specs.Rules.{second_drop}, proofs.Refusing.{repeated, drop_of_named, drop_keeps}}
use Rattle.ppdb_maps.proofs.draft.Draft.add_drop.Goals as goal

pub returns-then-contains : goal.returns-then-contains
returns-then-contains c = λ before closed.
    repeated before _ (second_drop (sym (closed.others.drops c.args.method) ∙ (sym c.contains.ensures ∙ c.if-contains.true)))

pub returns-then-is_named : goal.returns-then-is_named
returns-then-is_named c = λ before closed.
    drop_of_named before c.args.method (sym (closed.others.drops c.args.method) ∙ (sym c.contains.ensures ∙ c.if-contains.false))
    ((c.is_named.ensures before closed).0 c.if-is_named.true)

pub returns : goal.returns
returns c = λ before closed. (
  search rules,
  drop_keeps before c.args.method (sym (closed.others.drops c.args.method) ∙ (sym c.contains.ensures ∙ c.if-contains.false))
      (λ named. false≢true (sym c.if-is_named.false ∙ (c.is_named.ensures before closed).1 named)),
)
