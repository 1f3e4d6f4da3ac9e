use Rattle.std.{proofs.Common.{map, sym, subst}, specs.Prelude.{option_to_list}}
use Rattle.ppdb_maps.specs.declared.line.Line.TheVariants.{Kept}
use Rattle.map_compose.{specs.Says.{PutsLines}, proofs.Putting.{says_none, says_one, ok_then}}
use Rattle.map_compose.proofs.joining.put_held.Goals as goal

pub returns-in-None : goal.returns-in-None
returns-in-None c = subst (λ o. PutsLines c.args.text.now c.args.text.now (map (λ r. Kept r) (option_to_list o))) (sym c.in-None.is) (says_none c.args.text.now)

pub returns-in-Some : goal.returns-in-Some
returns-in-Some c = ok_then c.put_run.result
    (λ h. subst (λ o. PutsLines c.args.text.now c.put_run.new.self (map (λ r. Kept r) (option_to_list o))) (sym c.in-Some.is)
    (says_one c.args.text.now c.put_run.new.self (Kept c.in-Some.run') h)) c.put_run.ensures
