use Rattle.std.proofs.Common.{sym, refl, true, false, ◌∙◌}
use Rattle.map_compose.proofs.Signed.{version_is}
use Rattle.map_compose.proofs.signatures.version_by_both.Goals as goal

pub returns-then-named : goal.returns-then-named
returns-then-named c = sym (version_is c.args.first.now c.args.second.now true _ _ (sym c.names_by_both-named.ensures ∙ c.if-named.true) refl refl)

pub returns-then-leaves : goal.returns-then-leaves
returns-then-leaves c =
    sym (version_is c.args.first.now c.args.second.now false true _ (sym c.names_by_both-named.ensures ∙ c.if-named.false)
    (sym c.leaves_by_both-leaves.ensures ∙ c.if-leaves.true) refl)

pub returns-then-signed : goal.returns-then-signed
returns-then-signed c =
    sym (version_is c.args.first.now c.args.second.now false false true (sym c.names_by_both-named.ensures ∙ c.if-named.false)
    (sym c.leaves_by_both-leaves.ensures ∙ c.if-leaves.false) (sym c.signed_by_both-signed.ensures ∙ c.if-signed.true))

pub returns-else-signed : goal.returns-else-signed
returns-else-signed c =
    sym (version_is c.args.first.now c.args.second.now false false false (sym c.names_by_both-named.ensures ∙ c.if-named.false)
    (sym c.leaves_by_both-leaves.ensures ∙ c.if-leaves.false) (sym c.signed_by_both-signed.ensures ∙ c.if-signed.false))
