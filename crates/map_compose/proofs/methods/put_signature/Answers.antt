use Rattle.std.proofs.Common.{subst}
use Rattle.ppdb_maps.specs.declared.line.Line.TheVariants.{Signature}
use Rattle.map_compose.{specs.Says.{PutsLines, signed_says}, proofs.Putting.{says_none, says_one, ok_then}}
use Rattle.map_compose.proofs.methods.put_signature.Goals as goal

pub returns-in-None : goal.returns-in-None
returns-in-None c = subst (λ o. PutsLines c.args.text.now c.args.text.now (signed_says c.args.method o)) c.in-None.ensures (says_none c.args.text.now)

pub returns-in-Some : goal.returns-in-Some
returns-in-Some c = ok_then c.put_signature.result
    (λ h. subst (λ o. PutsLines c.args.text.now c.put_signature.new.self (signed_says c.args.method o)) c.in-Some.ensures
    (says_one c.args.text.now c.put_signature.new.self (Signature c.args.method c.in-Some.new) h)) c.put_signature.ensures
