use Rattle.std.proofs.Common.{sym, subst, ◌∙◌}
use Rattle.map_compose.{specs.Says.{PutsLines}, proofs.Putting.{says_none}, proofs.Signed.{three_signed}}
use Rattle.map_compose.proofs.signatures.put_signatures.Goals as goal

pub returns-then-version-eq3-clause-puts : goal.returns-then-version-eq3-clause-puts
returns-then-version-eq3-clause-puts c =
    subst (PutsLines c.args.text.now c.args.text.now)
    (sym (three_signed c.args.first.now c.args.second.now c.facts.ensures c.facts-2.ensures (sym c.requires.version ∙ c.if-version-eq3.true)))
    (says_none c.args.text.now)
